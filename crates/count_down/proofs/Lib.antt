pub mod CountDown

pub mod Visit

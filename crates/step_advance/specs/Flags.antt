-- Flags of 256 blocks each: where one is 0, none of its blocks is listed.
use Rattle.std.specs.Prelude.{ℕ, ◌/◌, ◌≤◌, ◌<◌, ◌≡◌, Bool, false, List, get_or, Option}
use Rattle.step_list.specs.Lists.{is_set, NextBit}
use Rattle.step_advance.specs.Steps.{Shaded, Stepped}

pub record Flagged (N : ℕ) (listed flags : List ℕ) : Type 0 where
  pub clear : (i : ℕ) → i < N → get_or flags (i / 256) 0 ≡ 0 → is_set listed i ≡ false

-- no block below `low` is listed
abbrev pub Clear : (listed : List ℕ) → (low : ℕ) → Type 0
Clear listed low = (i : ℕ) → i < low → is_set listed i ≡ false

-- blocks of one flag, from one of them to the last
pub record Section (N from end : ℕ) : Type 0 where
  pub some : from < end
  pub within : end ≤ N
  pub inside : (i : ℕ) → from ≤ i → i < end → i / 256 ≡ from / 256
  pub last : (i : ℕ) → i < N → i / 256 ≡ from / 256 → i < end

-- the lowest in it, if any
pub record Looked (N from end : ℕ) (listed flags : List ℕ) (r : Option ℕ) : Type 0 where
  pub next : NextBit listed from end r
  pub flagged : Flagged N listed flags

-- a reference, or a run of them, marked and listed
pub record Flying (N : ℕ) (named : ℕ → Bool) (marks listed flags : List ℕ) (low : ℕ) (marks' listed' flags' : List ℕ) (low' : ℕ)
    : Type 0 where
  pub shaded : Shaded N named marks listed marks' listed'
  pub flagged : Flagged N listed flags → Flagged N listed' flags'
  pub cleared : Clear listed low → Clear listed' low'
  pub lowered : low' ≤ low

-- a step at x
pub record Flown (N : ℕ) (named : ℕ → Bool) (x : ℕ) (marks listed flags marks' listed' flags' : List ℕ) (low' : ℕ) : Type 0 where
  pub stepped : Stepped N named x marks listed marks' listed'
  pub flagged : Flagged N listed flags → Flagged N listed' flags'
  pub cleared : Clear listed x → Clear listed' low'
  pub lowered : low' ≤ x

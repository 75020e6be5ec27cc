-- What a call does to a source or a sink.
use Rattle.std.specs.Prelude.{ℕ, List, Option}

-- what it has before and after the call: its bytes, where it tells them, and its count of faults
pub record Change : Type 0 where
  pub before : Option (List ℕ)
  pub after : Option (List ℕ)
  pub faults : ℕ
  pub faults_after : ℕ

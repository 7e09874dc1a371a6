-- What reading a number answers.
use Rattle.std.specs.Prelude.{◌≡◌, ℕ, ◌<◌}

-- r is the number `value`, which is below the bound
pub record ReadsBelow (bound value r : ℕ) : Type 0 where
  pub is : r ≡ value
  pub below : r < bound

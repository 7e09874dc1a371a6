-- What reading a sheet answers, and what it says of the sheet.
use Rattle.std.specs.Prelude.{◌≡◌, ◌↔◌, List, ℕ, ◌≤◌, Result, Ok}
use Rattle.limits.specs.Limits.{library_limit}
use Rattle.sheet_format.specs.Check.{complex_refusal, refusal}
use Rattle.sheet_format.specs.Sheet.{Bytes, IsSheet}
use Rattle.refusal.specs.Told.{told}
use Rattle.refusal.specs.declared.Refusal.{Refusal}

-- accepted, where no check that was tried tells a fault, or refused
abbrev pub Reading : Type 0
Reading = Result (Unit {0}) Refusal

-- the first of the refusals 1 to 7 that applies to the sheet b is told; a slice of bytes meets `Bytes`
pub record ReadsComplex (limit : ℕ) (b : List ℕ) (r : Reading) : Type 0 where
  pub number : told r ≡ complex_refusal limit b
  pub bytes : Bytes b

-- the first refusal that applies to the sheet b is told; b is accepted exactly when it is the layout of a complex without loose nodes; a slice of bytes meets
-- `Bytes`
pub record ReadsSheet (limit : ℕ) (b : List ℕ) (r : Reading) : Type 0 where
  pub number : told r ≡ refusal limit b
  pub accepted : limit ≤ library_limit → (r ≡ Ok tt) ↔ IsSheet limit b
  pub bytes : Bytes b

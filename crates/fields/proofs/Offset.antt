-- A section has at most suc top vertex numbers in each of its cells and fewer than 65536 cells: `most` vertex numbers.
use Prim.Native.Nat.{ℕ, suc, ◌*◌, ◌≤◌}
use native.Mathlib.Nat.{mul-le-mul}
use Rattle.sheet_format.specs.Layout.{top}

abbrev pub most : ℕ
most = suc top * 65536

pub few : (n i : ℕ) → n ≤ suc top → i ≤ 65536 → n * i ≤ most
few n i h k = mul-le-mul h k

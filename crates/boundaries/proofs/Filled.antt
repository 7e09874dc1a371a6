-- A matrix that is written into a slice keeps a peak of the slice that bounds the matrix too: `filled-under`, `filled-holds`.
use mathlib.Core.Path.{◌≡◌, refl, sym, ap, subst, ◌∙◌}
use mathlib.Core.Logic.{◌⊎◌, inl, inr, ⊎_elim}
use mathlib.Core.List.{List}
use Prim.Native.Nat.{ℕ, ◌+◌, ◌-◌, ◌*◌, ◌/◌, ◌%◌, ◌<◌, ◌≤◌}
use native.Mathlib.Nat as NatL
use native.Mathlib.Omega.{arith}
use native.Mathlib.Decide.{dec_lt, dec_le}
use lib.IntN.{ℤ, nat_abs}
use Rattle.matrices.specs.Matrix as theory
use Rattle.integers.specs.Slot.{slot}
use Rattle.matrix_lines.specs.Slice.{line_at, Under}
use Rattle.matrix_lines.specs.Matrices.{end, Off, everywhere, Holds}
use Rattle.matrix_lines.specs.declared.matrix.Matrix.{Matrix}
use Rattle.boundaries.specs.Filled.{MatrixFilled}

-- every entry of A lies within L
abbrev EntriesWithin : Matrix → theory.Matrix → ℕ → Type 0
EntriesWithin M A L = (i j : ℕ) → i < M.lines → j < M.width → nat_abs (A i j) ≤ L

-- place k is that of entry i, j
record EntryAt (M : Matrix) (k : ℕ) : Type 0 where
  i : ℕ
  j : ℕ
  line : i < M.lines
  column : j < M.width
  is : k ≡ line_at M.at M.width i + j

-- every place is an entry's or none of the matrix
entry-or-off : (M : Matrix) (k : ℕ) → EntryAt M k ⊎ Off M k
entry-or-off M k = pick (dec_lt k M.at) (dec_le (end M) k)
  where
    pick : Dec (k < M.at) → Dec (end M ≤ k) → EntryAt M k ⊎ Off M k
    pick (yes l) d = inr (inl l)
    pick (no l) (yes m) = inr (inr m)
    pick (no l) (no m) = inl (record { i = t / M.width; j = t % M.width; line = line; column = NatL.mod-lt t wide; is = omega (arith, parts) })
      where
        t : ℕ
        t = k - M.at

        wide : 0 < M.width
        wide = ⊎_elim (λ e. omega (arith, NatL.mul-zero M.lines, ap (λ (n : ℕ). M.lines * n) e)) (λ l. l) (NatL.eq-zero-or-pos M.width)

        parts : t / M.width * M.width + t % M.width ≡ t
        parts = NatL.div-add-mod' t M.width

        line : t / M.width < M.lines
        line = NatL.lt_of_not-le (λ h. omega (arith, parts, NatL.mul-le-mul_right M.width h))

module _ {M : Matrix} {w w' : List ℤ} {A : theory.Matrix} (f : MatrixFilled M w A w') where
  filled-bound : (L : ℕ) → ((k : ℕ) → nat_abs (slot w k) ≤ L) → EntriesWithin M A L → (k : ℕ) → nat_abs (slot w' k) ≤ L
  filled-bound L old new k =
      ⊎_elim
      (λ e. subst (λ (z : ℤ). nat_abs z ≤ L) (sym (ap (slot w') e.is ∙ f.on.at e.i e.j e.line e.column)) (new e.i e.j e.line e.column))
      (λ o. subst (λ (z : ℤ). nat_abs z ≤ L) (sym (f.off k o)) (old k))
      (entry-or-off M k)

  pub filled-under : {peak : ℕ} → Under peak w → EntriesWithin M A peak → Under peak w'
  filled-under {peak} u new = record { bound = filled-bound peak u.bound new; limit = u.limit }

  pub filled-holds : {peak : ℕ} → Under peak w → EntriesWithin M A peak → Holds M w everywhere A peak peak w'
  filled-holds {peak} u new = record {
    same_length = f.same_length;
    on = f.on;
    off = f.off;
    bounded = record { bound = λ k. NatL.le_trans (filled-bound peak u.bound new k) u.limit; limit = u.limit };
    above = NatL.le_refl peak;
    covered = record { entry = λ k. inr (filled-bound peak u.bound new k) };
    wrote = inl refl;
  }

-- Bytes put over one behind the other.
--     puts_none, puts-behind       no bytes, and bytes behind others
--     kept-bytes, kept-bytes-le    the bytes of the cells that stay: one cell more; fewer cells take no more
use mathlib.Core.Path.{◌≡◌, sym, ap, ◌∙◌}
use mathlib.Core.Bool.{Bool, cond}
use mathlib.Core.List.{List, [], ◌∷◌, ◌++◌}
use Prim.Native.Nat.{ℕ, suc, ◌≤◌}
use native.Mathlib.Nat.{add-zero}
use native.Mathlib.Omega.{arith}
use lib.ListN.{length, get_or, length-append}
use Rattle.lists.specs.SpliceLaws.{splice-nil}
use Rattle.complexes.specs.Cell.{Cell}
use Rattle.sheet_format.specs.Layout.{section_bytes}
use Rattle.closures.specs.Keep.{kept}
use Rattle.closures.proofs.KeepCount.{kept_next, rising-steps}
use Rattle.sheet_writer.proofs.Bytes.{splice-behind, section_bytes-append}
use Rattle.cell_keeper.specs.Unmarked.{Puts}

pub puts_none : (at : ℕ) (sheet : List ℕ) → Puts at [] sheet at sheet
puts_none at sheet = record { ends = sym (add-zero at); is = sym (splice-nil at sheet) }

pub puts-behind : {at : ℕ} {xs sheet : List ℕ} {r : ℕ} {sheet' ys : List ℕ} {r' : ℕ} {sheet'' : List ℕ} → at ≤ length sheet
    → Puts at xs sheet r sheet' → Puts r ys sheet' r' sheet'' → Puts at (xs ++ ys) sheet r' sheet''
puts-behind {at} {xs} {sheet} {r} {sheet'} {ys} {r'} {sheet''} h first second = record {
  ends = omega (arith, first.ends, second.ends, length-append xs ys);
  is = splice-behind at r xs ys sheet sheet' sheet'' h first.ends first.is second.is;
}

module _ (keeps : ℕ → Bool) (l : List Cell) where
  pub kept-bytes : (n : ℕ) → section_bytes (kept keeps l (suc n)) ≡ section_bytes (kept keeps l n) ++ section_bytes (cond (keeps n) (get_or l n [] ∷ []) [])
  kept-bytes n = ap section_bytes (kept_next keeps l n) ∙ section_bytes-append (kept keeps l n) (cond (keeps n) (get_or l n [] ∷ []) [])

  pub kept-bytes-le : (n m : ℕ) → n ≤ m → length (section_bytes (kept keeps l n)) ≤ length (section_bytes (kept keeps l m))
  kept-bytes-le =
      rising-steps (λ n. length (section_bytes (kept keeps l n)))
      (λ n.
      omega (
        arith,
        ap length (kept-bytes n),
        length-append (section_bytes (kept keeps l n)) (section_bytes (cond (keeps n) (get_or l n [] ∷ []) [])),
      ))

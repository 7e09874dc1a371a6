-- `write_field` meets its contract: its two bytes are put over.
use mathlib.Core.Path.{◌≡◌, sym, ap, ap₂, ◌∙◌}
use mathlib.Core.List.{List, [], ◌∷◌, ◌++◌}
use Prim.Native.Nat.{ℕ, ◌+◌, ◌-◌, ◌/◌, ◌%◌}
use native.Mathlib.Omega.{arith}
use borrow.Rule.Slice.PartMut.{put_mid}
use lib.ListN.{length, take, drop}
use lib.Seq.{drop-drop}
use Rattle.lists.specs.Splice.{splice}
use Rattle.sheet_format.specs.Layout.{field}
use Rattle.sheet_writer.proofs.write.write_field.Goals as goal

put : (at k : ℕ) (xs l : List ℕ) → length xs ≡ k → put_mid at k l xs ≡ splice at xs l
unfolding splice
put at k xs l e = ap (λ (t : List ℕ). take at l ++ (xs ++ t)) (drop-drop k at l ∙ ap (λ (n : ℕ). drop (at + n) l) (sym e))

two_bytes : (v : ℕ) → v % 65536 % 256 ∷ v % 65536 / 256 % 256 ∷ [] ≡ field v
two_bytes v =
    let low : v % 65536 % 256 ≡ v % 256 = omega arith in
    let high : v % 65536 / 256 % 256 ≡ v / 256 % 256 = omega arith in
    ap₂ (λ (a b : ℕ). a ∷ b ∷ []) low high

pub returns : goal.returns
returns c =
    let bytes = c.copy_from_slice.ensures.after ∙ c.to_le_bytes-bytes.ensures ∙ two_bytes c.args.v in
    ap (put_mid c.args.at (c.args.at + 2 - c.args.at) c.args.sheet.now) bytes
    ∙ put c.args.at (c.args.at + 2 - c.args.at) (field c.args.v) c.args.sheet.now (omega arith)

-- `line_end` meets its contract: past the end of the text stands neither a line feed nor a carriage return.
use mathlib.Core.Path.{◌≡◌, refl, sym, ◌∙◌}
use mathlib.Core.Bool.{Bool, true, false, cond}
use mathlib.Core.List.{List}
use Prim.Native.Nat.{ℕ, suc, ◌+◌}
use native.Mathlib.Numerals.{add-one}
use native.Mathlib.Omega.{arith}
use lib.ListN.{get_or}
use borrow.Author.Tests.{ne_eqb, eqb-true}
use Rattle.mesh_format.specs.Parse.{malformed, parsed, line_end}
use Rattle.mesh_words.specs.Class.{stands_at}
use Rattle.mesh_words.specs.declared.class.Class.TheVariants.{LineFeed, CarriageReturn}
use Rattle.mesh_words.proofs.Runs.{stands-true, stands-byte}
use Rattle.mesh_words.proofs.Told.{skipped-fails, skipped-goes}
use Rattle.mesh_words.proofs.reader.Reader.line_end.Goals as goal
use Rattle.mesh_words.proofs.reader.Reader.line_end.Goals.{then-stands, else-stands}

module _ (s : List ℕ) (at : ℕ) where
  -- a carriage return stands there or none, and the line feed is looked for at `feed`
  at_feed : (feed : ℕ) {b : Bool} → stands_at CarriageReturn s at ≡ b → feed ≡ cond b (at + 1) at
      → line_end s at ≡ cond (stands_at LineFeed s feed) (parsed tt (feed + 1)) malformed
  unfolding line_end
  at_feed feed {b = true} e f =
      let h = stands-true CarriageReturn s at e in let two : suc (suc at) ≡ feed + 1 = omega arith in let one : feed ≡ suc at = omega arith in
      let other : (get_or s at 0 ≡ 10 → ⊥) = λ z. omega (arith, eqb-true (get_or s at 0) 13 h.1) in
      rw (ne_eqb (get_or s at 0) 10 other, h.1, ← two, one, stands-byte LineFeed s (suc at) 0 refl refl)
  at_feed feed {b = false} e f =
      rw (f, stands-byte LineFeed s at 0 refl refl, stands-byte CarriageReturn s at 0 refl e, add-one at)

pub overflow_add-at : goal.overflow_add-at
overflow_add-at c = omega (arith, (stands-true CarriageReturn c.args.self.text.now c.args.self.at (sym c.stands.ensures ∙ c.if-stands.true)).0)

pub overflow_add-result : goal.overflow_add-result
overflow_add-result c = omega (arith, (stands-true LineFeed c.args.self.text.now c.if-stands.at (sym c.stands-2.ensures ∙ c.if-stands-2.true)).0)

pub returns-then-stands-2 : goal.returns-then-stands-2
returns-then-stands-2 c =
    let feed : c.if-stands.at ≡ cond c.stands.result (c.args.self.at + 1) c.args.self.at =
    elim c.if-stands.branch [ then-stands w ↦ rw w.if-stands.true w.at-is | else-stands w ↦ rw w.if-stands.false w.at-is ] in
    skipped-goes _ (record { is = at_feed c.args.self.text.now c.args.self.at c.if-stands.at (sym c.stands.ensures) feed ∙ rw (← c.stands-2.ensures, c.if-stands-2.true); same = refl })

pub returns-else-stands-2 : goal.returns-else-stands-2
returns-else-stands-2 c =
    let feed : c.if-stands.at ≡ cond c.stands.result (c.args.self.at + 1) c.args.self.at =
    elim c.if-stands.branch [ then-stands w ↦ rw w.if-stands.true w.at-is | else-stands w ↦ rw w.if-stands.false w.at-is ] in
    skipped-fails _ (at_feed c.args.self.text.now c.args.self.at c.if-stands.at (sym c.stands.ensures) feed ∙ rw (← c.stands-2.ensures, c.if-stands-2.false))

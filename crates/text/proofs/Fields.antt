-- The loop of `put_fields`: the invariant `Fields` is that the first i numbers are put, each after a space.
--     fields-none, fields-more, fields-all     where the loop starts, after a turn, where it ends
use mathlib.Core.Path.{◌≡◌, refl, sym, ap, ◌∙◌, subst}
use mathlib.Core.List.{List, [], ◌∷◌, ◌++◌}
use Prim.Native.Nat.{ℕ, ◌+◌, ◌*◌, ◌≤◌, ◌<◌}
use native.Mathlib.Numerals.{add-one}
use native.Mathlib.Omega.{arith}
use lib.ListN.{length, get_or, take}
use lib.Seq.{take_all}
use lib.IntN.{ℤ, pos}
use Rattle.program_text.specs.Text.{decimal, spaced}
use Rattle.program_text.proofs.TextLaws.{spaced-suc}
use Rattle.text.specs.Put.{PutsWithin}
use Rattle.text.specs.Room.{number_room, field_room}
use Rattle.text.specs.PutLaws.{within-nothing, within-append, within_more, within-next, within-kept, within-left}

pub record Fields (numbers : List ℤ) (out₀ : List ℕ) (at next i : ℕ) (out : List ℕ) : Type 0 where
  pub put : PutsWithin (field_room * i) (spaced (take i numbers)) at out₀ next out
  pub kept : length out ≡ length out₀

module _ {numbers : List ℤ} {out₀ : List ℕ} {at : ℕ} where
  pub fields-none : Fields numbers out₀ at at 0 out₀
  unfolding spaced
  fields-none = record { put = within-nothing at out₀; kept = refl }

  module _ {next i : ℕ} {out : List ℕ} (h : Fields numbers out₀ at next i out) (l : i < length numbers) (room : at + field_room * length numbers ≤ length out₀) where
    -- the room is enough for a space and a number
    pub fields-room : next + field_room ≤ length out
    fields-room = omega (arith, within-next h.put, h.kept)

    pub fields-more : {r r' : ℕ} {out' out'' : List ℕ} → PutsWithin 1 (32 ∷ []) next out r out'
        → PutsWithin number_room (decimal (get_or numbers i (pos 0))) r out' r' out'' → Fields numbers out₀ at r' (i + 1) out''
    fields-more {r} {r'} {out'} {out''} a b = record {
      put = subst (λ (text : List ℕ). PutsWithin (field_room * (i + 1)) text at out₀ r' out'') (sym text-is)
          (within_more (omega arith) (within-append (omega arith) h.put (within-append (omega (arith, fields-room)) a b)));
      kept = within-kept (within-left number_room fields-room a) b ∙ within-kept (omega (arith, fields-room)) a ∙ h.kept;
    }
      where
        text-is : spaced (take (i + 1) numbers) ≡ spaced (take i numbers) ++ (32 ∷ decimal (get_or numbers i (pos 0)))
        text-is = ap (λ (k : ℕ). spaced (take k numbers)) (add-one i) ∙ spaced-suc i numbers l

  pub fields-all : {next i : ℕ} {out : List ℕ} → Fields numbers out₀ at next i out → i ≡ length numbers
      → PutsWithin (field_room * length numbers) (spaced numbers) at out₀ next out
  fields-all {next} {i} {out} h e =
      subst (λ (text : List ℕ). PutsWithin (field_room * length numbers) text at out₀ next out)
      (ap spaced (take_all (length numbers) numbers (omega arith)))
      (subst (λ (k : ℕ). PutsWithin (field_room * k) (spaced (take k numbers)) at out₀ next out) e h.put)

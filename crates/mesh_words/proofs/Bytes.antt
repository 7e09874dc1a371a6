-- Bytes of one class, and a line of any bytes.
--     some-none, some-all               whether bytes of a class are read, by how many stand there
--     Read, some-read, some-missing     how many stand there, by what is read
--     byte-in, byte-out                 .. the byte at the position
--     same_is                   words that are the same, in the words of std
use mathlib.Core.Path.{◌≡◌, refl, sym, ap, ◌∙◌}
use mathlib.Core.Bool.{Bool, true, false, ◌&&◌}
use mathlib.Core.List.{List, [], ◌∷◌}
use Prim.Native.Nat.{ℕ, zero, suc, ◌+◌, ◌<◌}
use native.Mathlib.Nat.{add-zero}
use native.Mathlib.Omega.{arith}
use lib.Dec.{eqb}
use lib.ListN.{get_or, drop}
use lib.Seq.{get_or-drop}
use Rattle.std.specs.Cmp.Lexicographic.{pointwise}
use Rattle.lists.specs.Same.{same_list}
use Rattle.mesh_format.specs.Parse.{malformed, parsed, run, part, same_word, some_bytes}
use Rattle.mesh_format.proofs.ReadLaws.{malformed-fails, parsed-inj}
use Rattle.mesh_words.specs.Class.{in_class, some_of}
use Rattle.mesh_words.specs.declared.class.Class.{Class}
use Rattle.mesh_words.proofs.Runs.{run-each, run-stops}

module _ (s : List ℕ) (at : ℕ) where
  -- n bytes are read
  pub record Read (n : ℕ) (w : List ℕ) (next : ℕ) : Type 0 where
    pub some : 0 < n
    pub is : w ≡ part s at n
    pub ends : next ≡ at + n

  bytes-none : (n : ℕ) → n ≡ 0 → some_bytes s at n ≡ malformed
  unfolding some_bytes
  bytes-none zero e = refl
  bytes-none (suc n) e = absurd (omega arith)

  bytes-some : (n : ℕ) → (n ≡ 0 → ⊥) → some_bytes s at n ≡ parsed (part s at n) (at + n)
  unfolding some_bytes
  bytes-some zero d = absurd (d refl)
  bytes-some (suc n) d = refl

  bytes-read : (n : ℕ) {w : List ℕ} {next : ℕ} → some_bytes s at n ≡ parsed w next → Read n w next
  unfolding some_bytes
  bytes-read zero e = absurd (malformed-fails e)
  bytes-read (suc n) e = let h = parsed-inj e in record { some = omega arith; is = sym h.0; ends = sym h.1 }

  bytes-missing : (n : ℕ) → some_bytes s at n ≡ malformed → n ≡ 0
  unfolding some_bytes
  bytes-missing zero e = refl
  bytes-missing (suc n) e = absurd (malformed-fails (sym e))

  front : get_or (drop at s) 0 0 ≡ get_or s at 0
  front = get_or-drop at s 0 0 ∙ ap (λ (i : ℕ). get_or s i 0) (add-zero at)

  module _ (class : Class) where
    abbrev many : ℕ
    many = run (in_class class) (drop at s)

    pub some-none : many ≡ 0 → some_of class s at ≡ malformed
    unfolding some_of
    some-none = bytes-none many

    pub some-all : (many ≡ 0 → ⊥) → some_of class s at ≡ parsed (part s at many) (at + many)
    unfolding some_of
    some-all = bytes-some many

    pub some-read : {w : List ℕ} {next : ℕ} → some_of class s at ≡ parsed w next → Read many w next
    unfolding some_of
    some-read = bytes-read many

    pub some-missing : some_of class s at ≡ malformed → many ≡ 0
    unfolding some_of
    some-missing = bytes-missing many

    -- the byte at the position
    pub byte-in : {w : List ℕ} {next : ℕ} → some_of class s at ≡ parsed w next → in_class class (get_or s at 0) ≡ true
    byte-in e = rw (← front) (run-each (in_class class) (drop at s) 0 (some-read e).some)

    pub byte-out : in_class class 0 ≡ false → some_of class s at ≡ malformed → in_class class (get_or s at 0) ≡ false
    byte-out o e = rw (← front) (run-stops (in_class class) o (drop at s) (some-missing e))

-- ---- words

pub same_is : (w v : List ℕ) → pointwise eqb w v ≡ same_word w v
unfolding same_list
same_is [] [] = refl
same_is [] (b ∷ v) = refl
same_is (a ∷ w) [] = refl
same_is (a ∷ w) (b ∷ v) = ap (λ (t : Bool). eqb a b && t) (same_is w v)

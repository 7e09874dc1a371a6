-- Texts put one behind the other: puts-nothing, puts-byte, puts-append and length-puts; within-nothing, within-length, within-append and
-- within_more say how much room they take, within-next where they end, within-kept that the length stays, within-left what room is left.
use Rattle.std.specs.Prelude.{◌≡◌, refl, List, [], ◌∷◌, ◌++◌, ℕ, ◌+◌, ◌≤◌, ◌<◌, length, set}
use Rattle.std.proofs.Common.{sym, ◌∙◌, ap, le_refl, le_trans, arith, length-append}
use Rattle.lists.specs.SpliceLaws.{splice-nil, splice-set, splice-splice, length-splice}
use Rattle.text.specs.Put.{Puts, PutsWithin}

pub puts-nothing : (at : ℕ) (out : List ℕ) → Puts [] at out at out
puts-nothing at out = record { next = omega arith; is = sym (splice-nil at out) }

pub puts-byte : (b at : ℕ) (out : List ℕ) → at < length out → Puts (b ∷ []) at out (at + 1) (set out at b)
puts-byte b at out h = record { next = refl; is = sym (splice-set at b out h) }

-- a text put where another ended
pub puts-append : {xs ys : List ℕ} {at r r' : ℕ} {out out' out'' : List ℕ}
    → at ≤ length out → Puts xs at out r out' → Puts ys r out' r' out'' → Puts (xs ++ ys) at out r' out''
puts-append {xs} {ys} {at} {r} {r'} {out} {out'} {out''} h a b =
    record {
      next = omega (arith, length-append xs ys);
      is = b.is ∙ rw (a.is, a.next) (splice-splice at xs out h ys);
    }

-- where the text fits, the length stays
pub length-puts : {text : List ℕ} {at r : ℕ} {out out' : List ℕ} → r ≤ length out → Puts text at out r out' → length out' ≡ length out
length-puts {text} {at} {r} {out} h a = ap length a.is ∙ length-splice at text out (omega arith)

pub within-nothing : (at : ℕ) (out : List ℕ) → PutsWithin 0 [] at out at out
within-nothing at out = record { puts = puts-nothing at out; fits = omega arith }

pub within-append : {m n : ℕ} {xs ys : List ℕ} {at r r' : ℕ} {out out' out'' : List ℕ}
    → at ≤ length out → PutsWithin m xs at out r out' → PutsWithin n ys r out' r' out'' → PutsWithin (m + n) (xs ++ ys) at out r' out''
within-append {m} {n} {xs} {ys} h a b =
    record { puts = puts-append h a.puts b.puts; fits = omega (arith, length-append xs ys) }

-- the room is the text's own length
pub within-length : {text : List ℕ} {at r : ℕ} {out out' : List ℕ} → Puts text at out r out' → PutsWithin (length text) text at out r out'
within-length {text} a = record { puts = a; fits = le_refl (length text) }

-- a larger room
pub within_more : {m n : ℕ} {text : List ℕ} {at r : ℕ} {out out' : List ℕ} → m ≤ n → PutsWithin m text at out r out' → PutsWithin n text at out r out'
within_more h a = record { puts = a.puts; fits = le_trans a.fits h }

-- the place after the text
pub within-next : {m : ℕ} {text : List ℕ} {at r : ℕ} {out out' : List ℕ} → PutsWithin m text at out r out' → r ≤ at + m
within-next a = omega (arith, a.puts.next, a.fits)

-- where there is that room, the length stays
pub within-kept : {m : ℕ} {text : List ℕ} {at r : ℕ} {out out' : List ℕ} → at + m ≤ length out → PutsWithin m text at out r out' → length out' ≡ length out
within-kept h a = length-puts (omega (arith, within-next a)) a.puts

-- the room that is left
pub within-left : {m : ℕ} {text : List ℕ} {at r : ℕ} {out out' : List ℕ} (k : ℕ) → at + (m + k) ≤ length out → PutsWithin m text at out r out' → r + k ≤ length out'
within-left k h a = omega (arith, within-next a, within-kept (omega arith) a)

-- `print_homology` is safe and ends: what it writes is within the text that `print_input` has put.
use Rattle.std.proofs.Common.{◌≡◌, ◌∙◌, ℕ, ◌≤◌, List, length, take, drop, ap}
use native.Mathlib.Omega.{arith}
use Rattle.std.proofs.Math.ListN.{length-append, length-take}
use Rattle.std.proofs.Math.Seq.{take_all}
use Rattle.lists.specs.SpliceLaws.{splice-zero}
use Rattle.text.specs.Put.{PutsWithin}
use Rattle.homology.proofs.print_homology.Goals as goal

-- a text that starts at 0 ends within what it was put over
ends-within : {room : ℕ} {text : List ℕ} {out : List ℕ} {r : ℕ} {out' : List ℕ} → PutsWithin room text 0 out r out' → r ≤ length out'
ends-within {text = text} {out = out} a =
    omega (arith, a.puts.next, ap length (a.puts.is ∙ splice-zero text out), length-append text (drop (length text) out))

-- the first n bytes are an input that the array has room for
first-bytes : (l : List ℕ) (n : ℕ) → take (length l) (take n l) ≡ take n l
first-bytes l n = take_all (length l) (take n l) (simp length-take (omega arith))

pub shared_ref_as_front-write_all : goal.shared_ref_as_front-write_all
shared_ref_as_front-write_all g c =
    let read = c.read_full-length in
    let put = c.print_input-written in
    omega (arith, ends-within (put.ensures (take read.result read.new.bytes) (first-bytes read.new.bytes read.result)))

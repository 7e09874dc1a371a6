-- Lines of one sort read one after another, as a loop reads them.
--     Walk                                             so many lines are read, and the others are read on from here
--     walk_start, walk-stop, walk_more, walk_end       before the first line, at one that is malformed, after one more, after the last
use mathlib.Core.Path.{◌≡◌, refl, sym, ap, ◌∙◌}
use mathlib.Core.List.{List, [], ◌∷◌, ◌++◌, append-nil, append_assoc}
use Prim.Native.Nat.{ℕ, suc, ◌+◌, ◌-◌, ◌≤◌, ◌<◌}
use native.Mathlib.Omega.{arith}
use Rattle.mesh_format.specs.Parse.{Parsed, malformed, parsed, then}
use Rattle.mesh_format.proofs.ReadLaws.{Repeats}

-- of n lines from position `start` on, i are read, which told `read`, and the others are read on from position `at`
pub record Walk {A : Type 0} (lines : ℕ → List ℕ → ℕ → Parsed (List A)) (n : ℕ) (s : List ℕ) (start i at : ℕ) (read : List A) : Type 0 where
  pub left : ℕ
  pub sum : left + i ≡ n
  pub on : lines n s start ≡ then (lines left s at) (λ xs b. parsed (read ++ xs) b)

then-parsed : {A : Type 0} (p : Parsed A) → then p (λ x b. parsed x b) ≡ p
unfolding then
then-parsed malformed = refl
then-parsed (parsed x at) = refl

then-then : {A B C : Type 0} (p : Parsed A) (f : A → ℕ → Parsed B) (g : B → ℕ → Parsed C) → then (then p f) g ≡ then p (λ x a. then (f x a) g)
unfolding then
then-then malformed f g = refl
then-then (parsed x at) f g = refl

module _ {A : Type 0} {line : List ℕ → ℕ → Parsed A} {lines : ℕ → List ℕ → ℕ → Parsed (List A)} (r : Repeats line lines) where
  pub walk_start : (n : ℕ) (s : List ℕ) (start : ℕ) → Walk lines n s start 0 start []
  walk_start n s start = record { left = n; sum = omega arith; on = sym (then-parsed (lines n s start)) }

  module _ {n : ℕ} {s : List ℕ} {start i at : ℕ} {read : List A} (w : Walk lines n s start i at read) where
    pub walk_end : n ≤ i → lines n s start ≡ parsed read at
    unfolding then
    walk_end l =
        let none : w.left ≡ 0 = omega (arith, w.sum) in
        w.on ∙ rw (none, r.none s at) (ap (λ (xs : List A). parsed xs at) (append-nil read))

    module _ (l : i < n) where
      rest : ℕ
      rest = w.left - 1

      -- the next line, and those after it
      next-line : lines n s start ≡ then (line s at) (λ x a. then (lines rest s a) (λ xs b. parsed (read ++ (x ∷ xs)) b))
      unfolding rest then
      next-line =
          let some : w.left ≡ suc rest = omega (arith, w.sum) in
          w.on
          ∙ ap (λ (k : ℕ). then (lines k s at) (λ xs b. parsed (read ++ xs) b)) some
          ∙ ap (λ p. then p (λ xs b. parsed (read ++ xs) b)) (r.more rest s at)
          ∙ then-then (line s at) (λ x a. then (lines rest s a) (λ xs b. parsed (x ∷ xs) b)) (λ xs b. parsed (read ++ xs) b)
          ∙ each (line s at)
        where
          each : (p : Parsed A)
              → then p (λ x a. then (then (lines rest s a) (λ xs b. parsed (x ∷ xs) b)) (λ xs b. parsed (read ++ xs) b))
              ≡ then p (λ x a. then (lines rest s a) (λ xs b. parsed (read ++ (x ∷ xs)) b))
          each malformed = refl
          each (parsed x a) = then-then (lines rest s a) (λ xs b. parsed (x ∷ xs) b) (λ xs b. parsed (read ++ xs) b)

      pub walk-stop : line s at ≡ malformed → lines n s start ≡ malformed
      unfolding then
      walk-stop e = next-line ∙ rw e refl

      pub walk_more : {x : A} {next : ℕ} → line s at ≡ parsed x next → Walk lines n s start (i + 1) next (read ++ (x ∷ []))
      unfolding rest then
      walk_more {x = x} {next = next} e = record {
        left = rest;
        sum = omega (arith, w.sum);
        on = next-line ∙ rw e (each (lines rest s next));
      }
        where
          each : (p : Parsed (List A)) → then p (λ xs b. parsed (read ++ (x ∷ xs)) b) ≡ then p (λ xs b. parsed ((read ++ (x ∷ [])) ++ xs) b)
          each malformed = refl
          each (parsed xs b) = ap (λ (ys : List A). parsed ys b) (sym (append_assoc read (x ∷ []) xs))

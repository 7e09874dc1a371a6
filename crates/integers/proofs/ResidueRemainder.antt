-- The residue and the remainder, each from the other, for a positive d: `residue-lowered` where the remainder is larger than what it lacks of d,
-- `residue-kept` where it is not, and `nat_abs-lowered`, `nat_abs-lack`, the sizes; `modulo-of-residue`.
use mathlib.Core.Path.{◌≡◌, refl, sym, ◌∙◌, ap, subst}
use mathlib.Core.Logic.{◌↔◌}
use mathlib.Core.Bool.{cond}
use mathlib.Core.List.{[], ◌∷◌}
use Prim.Native.Nat.{ℕ, ◌-◌, ◌≤◌}
use native.Mathlib.Nat as NatL
use lib.IntN.{ℤ, pos, negsuc, neg_ℤ, nat_abs, ◌+ℤ◌, ◌-ℤ◌, ◌*ℤ◌}
use lib.Signed.{lt_z, ◌≤ℤ◌, ◌<ℤ◌, lt_z_yes, lt_z_no, <ℤ_irrefl, <ℤ-≤ℤ_trans}
use Rattle.integers.proofs.Solve.{solve, terms}
use Rattle.integers.proofs.Order.{cond_ind, nat_abs-neg, pos-lt, sub-nonneg, le-of-sub-nonneg}
use Rattle.integers.specs.Division.{floor, modulo, residue}
use Rattle.integers.proofs.Floor.{Division, floor-division}
use Rattle.integers.proofs.Residue.{residue-ind, less-divisor}

module _ (a d : ℤ) where
  abbrev m : ℤ
  m = modulo a d

  -- twice m is at most d exactly when m is at most what it lacks of d
  twice-iff : ((pos 2 *ℤ m) ≤ℤ d) ↔ (m ≤ℤ (d -ℤ m))
  twice-iff = (
    (λ h. le-of-sub-nonneg (subst (λ (x : ℤ). pos 0 ≤ℤ x) (same m d) (sub-nonneg h))),
    (λ h. le-of-sub-nonneg (subst (λ (x : ℤ). pos 0 ≤ℤ x) (sym (same m d)) (sub-nonneg h))),
  )
    where
      same : (m d : ℤ) → d -ℤ pos 2 *ℤ m ≡ d -ℤ m -ℤ m
      same m d = solve (m ∷ d ∷ []) (search terms depth 16) tt

  pub residue-lowered : (d -ℤ m) <ℤ m → residue a d ≡ m -ℤ d
  residue-lowered h = residue-ind a d (λ (r : ℤ). r ≡ m -ℤ d) (λ f. refl) (λ f. absurd (<ℤ_irrefl (<ℤ-≤ℤ_trans h (twice-iff.0 f))))

  pub residue-kept : m ≤ℤ (d -ℤ m) → residue a d ≡ m
  residue-kept h = residue-ind a d (λ (r : ℤ). r ≡ m) (λ f. absurd (<ℤ_irrefl (<ℤ-≤ℤ_trans f (twice-iff.1 h)))) (λ f. refl)

module _ (a d : ℤ) (positive : pos 0 <ℤ d) where
  division : Division a d (floor a d) (modulo a d)
  division = floor-division a d positive

  pub nat_abs-lowered : nat_abs (modulo a d -ℤ d) ≤ nat_abs d
  nat_abs-lowered = go d (modulo a d) division.low division.high
    where
      go : (d m : ℤ) → pos 0 ≤ℤ m → m <ℤ d → nat_abs (m -ℤ d) ≤ nat_abs d
      go (pos n) (pos k) l h =
          subst (λ (x : ℕ). x ≤ n) (sym (ap nat_abs (less-divisor k n (pos-lt h)) ∙ nat_abs-neg (pos (n - k)))) (NatL.sub-le n k)
      go (negsuc n) (pos k) l h = absurd h.lt
      go d (negsuc k) l h = absurd l.le

  pub nat_abs-lack : nat_abs (d -ℤ modulo a d) ≤ nat_abs d
  nat_abs-lack = subst (λ (x : ℕ). x ≤ nat_abs d) (sym (ap nat_abs (opposite d (modulo a d)) ∙ nat_abs-neg (modulo a d -ℤ d))) nat_abs-lowered
    where
      opposite : (d m : ℤ) → d -ℤ m ≡ neg_ℤ (m -ℤ d)
      opposite d m = solve (d ∷ m ∷ []) (search terms depth 16) tt

-- r, and d more where r is negative
abbrev pub raised : ℤ → ℤ → ℤ
raised d r = cond (lt_z r (pos 0)) (r +ℤ d) r

pub modulo-of-residue : (a d : ℤ) → pos 0 <ℤ d → modulo a d ≡ raised d (residue a d)
modulo-of-residue a d h = residue-ind a d (λ (r : ℤ). modulo a d ≡ raised d r) (λ f. lowered (modulo a d) m.high) (λ f. kept (modulo a d) m.low)
  where
    m : Division a d (floor a d) (modulo a d)
    m = floor-division a d h

    raised-ind : (r : ℤ) (P : ℤ → Type 0) → (r <ℤ pos 0 → P (r +ℤ d)) → (pos 0 ≤ℤ r → P r) → P (raised d r)
    raised-ind r P f g = cond_ind (lt_z r (pos 0)) (r +ℤ d) r P (λ t. f (lt_z_yes t)) (λ t. g (lt_z_no t))

    back : (m d : ℤ) → m ≡ m -ℤ d +ℤ d
    back m d = solve (m ∷ d ∷ []) (search terms depth 16) tt

    lowered : (m : ℤ) → m <ℤ d → m ≡ raised d (m -ℤ d)
    lowered m k = raised-ind (m -ℤ d) (λ (r : ℤ). m ≡ r) (λ f. back m d) (λ f. absurd (<ℤ_irrefl (<ℤ-≤ℤ_trans k (le-of-sub-nonneg f))))

    kept : (m : ℤ) → pos 0 ≤ℤ m → m ≡ raised d m
    kept m k = raised-ind m (λ (r : ℤ). m ≡ r) (λ f. absurd (<ℤ_irrefl (<ℤ-≤ℤ_trans f k))) (λ f. refl)

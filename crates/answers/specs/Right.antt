-- What it means that a report is right. A caller reads it as numbers by their slots, from a slice of numbers or from bytes.
use Rattle.std.specs.Prelude.{◌≡◌, cond, ℕ, ◌+◌, ◌*◌, ◌<◌, ltb, ℤ, pos, ◌<ℤ◌}
use Rattle.complexes.specs.Complex.{Sections, count}
use Rattle.homology_groups.specs.Chain.{Chain}
use Rattle.homology_groups.specs.Presentation.{SameOrders}
use Rattle.answers.specs.Homology.{Presents}

-- ---- of the numbers of a report with t orders, for n cells

-- the order of generator j: the t orders stand from slot 2 on; the generators after them are free, of order 0
abbrev pub order_in : (ℕ → ℤ) → ℕ → ℕ → ℤ
order_in report t j = cond (ltb j t) (report (2 + j)) (pos 0)

-- generator j: n coefficients, the generators one after another behind the orders
abbrev pub generator_in : (ℕ → ℤ) → ℕ → ℕ → ℕ → Chain
generator_in report t n j i = report (2 + t + j * n + i)

-- The report says free rank f and t orders, each above 1. Its generators, with its orders and then f free ones, present the homology group; any
-- other generators and orders that present the group are as many and have the same orders, so the same free rank.
pub record IsRight (K : Sections) (p f t : ℕ) (report : ℕ → ℤ) : Type 0 where
  pub free-rank : report 0 ≡ pos f
  pub orders-count : report 1 ≡ pos t
  pub order-above-one : (j : ℕ) → j < t → pos 1 <ℤ order_in report t j
  pub presents : Presents K p (t + f) (generator_in report t (count K p)) (order_in report t)
  pub only : (k : ℕ) (g : ℕ → Chain) (o : ℕ → ℤ) → Presents K p k g o → SameOrders (t + f) (order_in report t) k o

-- how many numbers it has
abbrev pub report_length : Sections → ℕ → ℕ → ℕ → ℕ
report_length K p f t = 2 + t + (t + f) * count K p

-- free rank f and t orders are the group's: some report that is right says so
pub record HasCounts (K : Sections) (p f t : ℕ) : Type 0 where
  pub report : ℕ → ℤ
  pub is_right : IsRight K p f t report

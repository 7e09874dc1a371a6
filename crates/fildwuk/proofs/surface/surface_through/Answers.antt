-- `surface::surface_through` meets its contract: what it answers and writes is `SurfaceThrough`'s to say, from what `surface_at` ensures.
use mathlib.Core.Path.{◌≡◌, refl, sym}
use mathlib.Core.Bool.{true}
use mathlib.Core.Logic.{◌≢◌, ◌⊎◌}
use mathlib.Core.List.{List}
use Prim.Native.Nat.{ℕ, ◌*◌, ◌≤◌}
use native.Mathlib.Omega.{arith}
use Rattle.std.proofs.lemmas.Result.{err_from_is_err_and}
use lib.ListN.{length, take, replicate}
use Rattle.std.proofs.lemmas.List.{length-replicate}
use lib.Seq.{length-take-le}
use lib.IntN.{ℤ, pos}
use Rattle.limits.specs.Limits.{host_limit}
use Rattle.reports.specs.Reductions.{second_columns_only}
use Rattle.requests.specs.Question.{asked}
use Rattle.host_calls.specs.Bytes.{chain_from}
use Rattle.host_calls.specs.Host.{work_room_for}
use Rattle.fildwuk.proofs.Through.{Lent, lend, lent_length, slots, left, writable}
use Rattle.fildwuk.proofs.SurfaceThrough.{surface-refuses, surface-room, surface-writes}
use Rattle.fildwuk.proofs.surface.surface_through.Goals as goal
use Rattle.fildwuk.proofs.surface.surface_through.Goals.{Start, After-read_given-given, After-surface_at, In_ok-surface_at, After-count-written}

-- the coefficients that are lent
module _ (c : After-read_given-given) where
  abbrev lent : List ℤ
  lent = take c.read_given-given.result c.read_given-given.new.coefficients

  lent-size : length lent ≡ c.read_given-given.result
  lent-size = length-take-le c.read_given-given.result c.read_given-given.new.coefficients c.read_given-given.ensures.fits

  stands : (n : ℕ) → n ≤ host_limit
      → (lent ≡ chain_from n c.args.chain.now)
      ⊎ ((length lent ≢ n) × (length c.args.chain.now ≢ 4 * n))
  stands n few = rw lent-size (c.read_given-given.ensures.stands n few)

-- the library's call
module _ (c : After-surface_at) where
  abbrev given : After-read_given-given
  given = (goal.at.After-surface_at c).After-read_given-given

  abbrev start : Start
  start = (goal.at.After-read_given-given given).Start

  abbrev call : Lent host_limit (work_room_for (second_columns_only true))
  call =
      let args = start.args in
      lend host_limit (work_room_for (second_columns_only true)) (asked args.sheet.now args.dimension) args.surface.now (replicate host_limit (pos 0)) (replicate (work_room_for (second_columns_only true)) (pos 0))
      c.host.ensures (λ i. (c.type_inv.sheet i).fits) c.min-slots.ensures
      (length-replicate host_limit (pos 0)) (length-replicate (work_room_for (second_columns_only true)) (pos 0))

pub slice_bounds-surface_at-end : goal.slice_bounds-surface_at-end
slice_bounds-surface_at-end c = sym (lent-size (goal.at.slice_bounds-surface_at-end c).After-read_given-given)

-- so many numbers of the slots are written
module _ (c : After-count-written) where
  abbrev done : In_ok-surface_at
  done = (goal.at.After-count-written c).In_ok-surface_at

  abbrev called : After-surface_at
  called = (goal.at.In_ok-surface_at done).After-surface_at

  abbrev written : ℕ
  written = c.count-written.result

  abbrev numbers : List ℤ
  numbers = left (call called) called.surface_at.new.surface

  ready : (written ≤ length numbers) × (8 * written ≤ length (call called).output)
  ready =
      writable (call called) called.surface_at.new.surface
      (surface-room (call called) (start called).args.chain.now (lent (given called)) (stands (given called)) done.in_ok-surface_at.ensures refl c.count-written.ensures.is)
      called.surface_at.auto.surface

  as-many : length (take written numbers) ≡ written
  as-many = length-take-le written numbers ready.0

pub slice_bounds-numbers-end-2 : goal.slice_bounds-numbers-end-2
slice_bounds-numbers-end-2 c = (ready (goal.at.slice_bounds-numbers-end-2 c).After-count-written).0

pub slice_bounds-write_numbers-end : goal.slice_bounds-write_numbers-end
slice_bounds-write_numbers-end c = sym (as-many (goal.at.slice_bounds-write_numbers-end c).After-count-written)

pub write_numbers-requires : goal.write_numbers-requires
write_numbers-requires c = let d = (goal.at.write_numbers-requires c).After-count-written in omega (arith, as-many d, (ready d).1)

pub returns-in_err-surface_at : goal.returns-in_err-surface_at
returns-in_err-surface_at c =
    let a = (goal.at.returns-in_err-surface_at c).After-surface_at in
    let x = err_from_is_err_and c.from_residual.result c.from_residual.ensures.1 in
    rw (x.1, x.2) (surface-refuses (call a) (start a).args.chain.now (lent (given a)) (stands (given a)) c.in_err-surface_at.ensures refl)

pub returns : goal.returns
returns c =
    let d = (goal.at.returns c).After-count-written in
    let a = called d in
    surface-writes (call a) (start a).args.chain.now (lent (given a)) (stands (given a)) (done d).in_ok-surface_at.ensures refl d.count-written.ensures.is
    a.surface_at.auto.surface c.write_numbers.ensures

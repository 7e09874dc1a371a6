use mathlib.Core.Path.{◌≡◌, refl, sym, ap, ap₂, ◌∙◌}
use mathlib.Core.List.{List}
use Prim.Native.Nat.{ℕ, ◌+◌, ◌*◌, ◌≤◌}
use native.Mathlib.Nat.{le_antisymm, mul_left_comm, suc-mul, mul-le-mul_right}
use native.Mathlib.Numerals.{add-one}
use native.Mathlib.Omega.{arith}
use lib.ListN.{length, take}
use lib.Seq.{length-take-le}
use lib.IntN.{ℤ}
use Rattle.lists.specs.Splice.{splice, splices}
use Rattle.lists.specs.SpliceLaws.{take-splice-zero}
use Rattle.reports.specs.Report.{kind}
use Rattle.reports.proofs.ReportLaws.{length-reported-le, length-coordinate_list}
use Rattle.host_calls.specs.Bytes.{numbers_bytes}
use Rattle.limits.specs.Limits.{host_limit}
use Rattle.two_reductions.specs.Slices.{state_in}
use Rattle.writers.specs.Written.{WrittenFrom, coordinates_of}
use Rattle.fildwuk.specs.Lists.{chain_of, list_bytes}
use Rattle.fildwuk.proofs.ChainBytes.{chain-stands, chain-read, chain_length}
use Rattle.fildwuk.proofs.coordinate_lists.write_bytes.Goals as goal
use Rattle.fildwuk.proofs.coordinate_lists.write_bytes.Goals.{Start, After-read_chain, After-write_coordinates-width}

pub loop-i-init : goal.loop-i-init
unfolding splices
loop-i-init c = record { so_far = refl; size = length-take-le c.args.cells _ c.requires.few; room = refl }

-- ---- the next chain is read

pub overflow_mul-at : goal.overflow_mul-at
overflow_mul-at c =
    omega (
      arith,
      chain-stands c.args.cells c.args.many c.args.chains.now c.requires.size c.loop-i.i c.loop-i-test.true,
      c.well_formed,
    )

pub read_chain-requires : goal.read_chain-requires
read_chain-requires c = omega (arith, c.loop-i.invariant.size, chain-stands c.args.cells c.args.many c.args.chains.now c.requires.size c.loop-i.i c.loop-i-test.true)

module _ (c : After-read_chain) where
  abbrev start : Start
  start = (goal.at.After-read_chain c).Start

  abbrev cells : ℕ
  cells = start.args.cells

  abbrev many : ℕ
  many = start.args.many

  abbrev bytes : List ℕ
  bytes = start.args.chains.now

  abbrev i : ℕ
  i = c.loop-i.i

  -- its coordinates
  abbrev list : List ℤ
  list = coordinates_of start.args.reduced start.args.w.now (chain_of cells many bytes i)

  read_is : c.read_chain.new.coefficients ≡ chain_of cells many bytes i
  read_is = chain-read cells many bytes start.requires.size i c.loop-i-test.true c.loop-i.invariant.size c.read_chain.ensures

  list-short : length list ≤ cells
  list-short =
      let x = start.args.reduced in let state = state_in x start.args.w.now in
      omega (
        arith,
        length-coordinate_list x.workspace.row_follower.width x.workspace.matrix.lines state (chain_of cells many bytes i),
        length-reported-le (kind state) x.workspace.matrix.lines,
        start.requires.short,
      )

-- ---- its coordinates, as numbers

pub slice_bounds-write_coordinates-end : goal.slice_bounds-write_coordinates-end
slice_bounds-write_coordinates-end c = sym c.loop-i.invariant.room

pub write_coordinates-width-requires : goal.write_coordinates-width-requires
write_coordinates-width-requires c =
    let r = (goal.at.write_coordinates-width-requires c).After-read_chain in
    rw (read_is r, r.loop-i.invariant.room) ((start r).requires.each (i r) r.loop-i-test.true)

module _ (c : After-write_coordinates-width) where
  abbrev reads : After-read_chain
  reads = (goal.at.After-write_coordinates-width c).After-read_chain

  wrote : WrittenFrom 0 (list reads) reads.loop-i.numbers c.write_coordinates-width.result c.write_coordinates-width.new.coordinates
  wrote = rw (read_is reads) at c.write_coordinates-width.ensures

  width : c.write_coordinates-width.result ≡ length (list reads)
  width = omega (arith, wrote.next)

  numbers-length : length c.write_coordinates-width.new.coordinates ≡ host_limit
  numbers-length = c.write_coordinates-width.auto.coordinates ∙ reads.loop-i.invariant.room

  fits : c.write_coordinates-width.result ≤ length c.write_coordinates-width.new.coordinates
  fits = omega (arith, width, list-short reads, (start reads).requires.few, numbers-length)

  numbers-are : take c.write_coordinates-width.result c.write_coordinates-width.new.coordinates ≡ list reads
  numbers-are =
      ap₂ (λ (n : ℕ) (l : List ℤ). take n l) width wrote.is ∙ take-splice-zero (list reads) reads.loop-i.numbers

  -- its slots
  slots : 8 * (i reads * cells reads) + 8 * c.write_coordinates-width.result ≤ length (start reads).args.out.now
  slots =
      omega (
        arith,
        width,
        list-short reads,
        (start reads).requires.room,
        suc-mul (i reads) (cells reads),
        mul-le-mul_right (cells reads) reads.loop-i-test.true,
      )

-- ---- and as bytes

pub slice_bounds-write_numbers-end : goal.slice_bounds-write_numbers-end
slice_bounds-write_numbers-end c = sym (length-take-le _ _ (fits (goal.at.slice_bounds-write_numbers-end c).After-write_coordinates-width))

pub slice_bounds-numbers-end : goal.slice_bounds-numbers-end
slice_bounds-numbers-end c = fits (goal.at.slice_bounds-numbers-end c).After-write_coordinates-width

pub overflow_mul-at-in-loop-i : goal.overflow_mul-at-in-loop-i
overflow_mul-at-in-loop-i c = let w = (goal.at.overflow_mul-at-in-loop-i c).After-write_coordinates-width in omega (arith, slots w, (start (reads w)).well_formed)

pub write_numbers-requires : goal.write_numbers-requires
write_numbers-requires c =
    let w = (goal.at.write_numbers-requires c).After-write_coordinates-width in
    let r = reads w in
    omega (arith, slots w, ap length (numbers-are w), width w, r.loop-i.auto.out)

pub loop-i-preserved : goal.loop-i-preserved
unfolding splices
loop-i-preserved c =
    let wrote = c.write_numbers in
    let w = (goal.at.loop-i-preserved c).After-write_coordinates-width in
    let r = reads w in
    let loop = r.loop-i in
    record {
      so_far =
          wrote.ensures
          ∙ ap (λ (l : List ℤ). splice (8 * (i r * cells r)) (numbers_bytes l) loop.out) (numbers-are w)
          ∙ rw (add-one (i r)) (ap₂ (λ (at : ℕ) (l : List ℕ). splice at (numbers_bytes (list r)) l) (mul_left_comm 8 (i r) (cells r)) loop.invariant.so_far);
      size = r.read_chain.auto.coefficients ∙ loop.invariant.size;
      room = numbers-length w;
    }

pub returns : goal.returns
returns c =
    let a = c.args in
    c.loop-i.invariant.so_far
    ∙ ap (λ (n : ℕ). splices (8 * a.cells) (list_bytes a.reduced a.w.now a.cells a.many a.chains.now) n a.out.now)
    (le_antisymm c.loop-i.auto.i-end c.loop-i-test.false)

-- `face::face_places` meets its contract: an accepted sheet holds every face, so that none is missing.
use Prim.Native.Nat.{suc}
use native.Mathlib.Numerals.{add-one}
use native.Mathlib.Omega.{arith}
use Rattle.sheet_format.specs.Sheet.{Bytes}
use Rattle.cells.specs.Section.{IsSection}
use Rattle.faces.proofs.Sheet.{Looked, count-le, rising, found}
use Rattle.faces.proofs.face.face_places.Goals as goal
use Rattle.faces.proofs.face.face_places.Goals.{After-byte}

bytes : (c : After-byte) → Bytes c.args.s.now
bytes c = record { small = λ i. (c.type_inv.s i).fits }

pub byte-requires : goal.byte-requires
byte-requires c = omega (arith, c.requires.p_lt_top.1, count-le (record { small = λ i. (c.type_inv.s i).fits }) c.requires.accepted (suc c.args.p))

-- the cell and the section where its faces are looked for
looked : (c : After-byte) → Looked c.args.s.now c.args.p c.args.j c.byte.result c.of-faces.result
looked c = record {
  inside = c.requires.p_lt_top.0;
  below = c.requires.p_lt_top.1;
  cell-starts =
      let at : IsSection c.args.s.now (suc c.args.p) c.of-cells.result = rw (add-one c.args.p) at c.of-cells.ensures in
      rw (at.starts, at.sized) at c.byte.ensures.is;
  faces = c.of-faces.ensures;
}

pub find_faces-requires-clause-rising : goal.find_faces-requires-clause-rising
find_faces-requires-clause-rising c =
    let d = (goal.at.find_faces-requires-clause-rising c).After-byte in rising (bytes d) d.requires.accepted (looked d)

pub returns : goal.returns
returns c =
    let d = (goal.at.returns c).After-byte in
    found (bytes d) d.requires.accepted (looked d) c.find_faces.result c.find_faces.new.places c.find_faces.ensures

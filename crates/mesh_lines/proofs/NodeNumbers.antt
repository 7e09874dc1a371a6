-- The node numbers of an element, one after another, and the first of them packed.
--     Turn                                  one of them
--     Nodes                                 those from `from` up to `at`
--     no-nodes, packed-in, packed-past          none, and one more
--     no_node, no_end, all_read             what they make of the line
use borrow.Author.Tests.{ltb-true}
use mathlib.Core.Path.{◌≡◌, refl, sym, ap, ◌∙◌}
use mathlib.Core.List.{List, [], ◌∷◌, ◌++◌, append-nil, append_assoc}
use Prim.Native.Nat.{ℕ, suc, ◌+◌, ◌*◌, ◌^◌, ◌≤◌, ◌<◌}
use native.Mathlib.Nat.{pow-suc, pow-le-pow_right}
use native.Mathlib.Numerals.{add-one}
use native.Mathlib.Omega.{arith}
use lib.Dec.{ltb}
use lib.ListN.{length, take, length-append}
use lib.Seq.{take_all, take-append-le}
use Rattle.complexes.specs.Complex.{vertex_bound}
use Rattle.complexes.specs.Packed.{word_vertices, packed}
use Rattle.complexes.proofs.PackedLaws.{packed-append}
use Rattle.mesh_format.specs.Parse.{Parsed, malformed, parsed, then, gap, number, node, line_end, node_numbers}
use Rattle.mesh_format.proofs.ReadLaws.{Within, parsed-inj, then-case, cond-split}
use Rattle.mesh_format.proofs.StepLaws.{gap_within, node-within, node_numbers-step}
use Rattle.mesh_words.specs.Class.{some_of}
use Rattle.mesh_words.specs.declared.class.Class.TheVariants.{Space}
use Rattle.mesh_words.proofs.Bytes.{byte-in, byte-out}
use Rattle.mesh_words.proofs.Steps.{fails, goes}

-- ---- a node number after spaces

-- the spaces g stand at `at`, and behind them the node number v, which ends at b
pub record Turn (s : List ℕ) (at v b : ℕ) : Type 0 where
  pub spaces : List ℕ
  pub start : ℕ
  pub parts : gap s at ≡ parsed spaces start
  pub read : node s start ≡ parsed v b

module _ {s : List ℕ} {at v b : ℕ} (t : Turn s at v b) where
  pub node-small : v < vertex_bound
  unfolding node
  node-small =
      then-case (number s t.start) t.read (λ u n _ f.
      let h = cond-split (ltb u vertex_bound) f in rw (parsed-inj h.1).0 at (ltb-true u vertex_bound h.0))

  pub node-ends : Within (suc at) s b
  node-ends =
      let g = (gap_within s at).ends t.spaces t.start t.parts in let n = (node-within s t.start).ends v b t.read in
      record { past = omega (arith, g.past, n.past); inside = n.inside }

  pub inside : at < length s
  inside = let g = (gap_within s at).ends t.spaces t.start t.parts in omega (arith, g.past, g.inside)

-- ---- node numbers

module _ (s : List ℕ) (at : ℕ) where
  none_more : gap s at ≡ malformed → node_numbers s at ≡ then (line_end s at) (λ _ a. parsed [] a)
  unfolding gap some_of
  none_more e = node_numbers-step s at ∙ rw (byte-out s at Space refl e)

  one_more : {g : List ℕ} {a : ℕ} → gap s at ≡ parsed g a
      → node_numbers s at ≡ then (node s a) (λ v b. then (node_numbers s b) (λ vs c. parsed (v ∷ vs) c))
  unfolding gap some_of
  one_more e = node_numbers-step s at ∙ rw (byte-in s at Space e) (goes _ e refl)

-- the node numbers `nodes`, and behind them those that p reads
abbrev behind : List ℕ → Parsed (List ℕ) → Parsed (List ℕ)
behind nodes p = then p (λ vs next. parsed (nodes ++ vs) next)

behind-next : (nodes : List ℕ) (v : ℕ) (p : Parsed (List ℕ))
    → behind nodes (then p (λ vs next. parsed (v ∷ vs) next)) ≡ behind (nodes ++ (v ∷ [])) p
unfolding then
behind-next nodes v malformed = refl
behind-next nodes v (parsed vs next) = ap (λ (l : List ℕ). parsed l next) (sym (append_assoc nodes (v ∷ []) vs))

-- ---- packed

packed-next : (c : List ℕ) (v : ℕ) → packed (c ++ (v ∷ [])) ≡ packed c * vertex_bound + v
unfolding packed
packed-next c v = omega (arith, packed-append c (v ∷ []))

-- `many` node numbers are read from `from` up to `at`, and the others stand from there on; `word` is the first of them packed
pub record Nodes (s : List ℕ) (from at many word : ℕ) : Type 0 where
  pub nodes : List ℕ
  pub count : many ≡ length nodes
  pub packs : word ≡ packed (take word_vertices nodes)
  pub small : many ≤ word_vertices → word < vertex_bound ^ many
  pub passed : many ≤ at
  pub others : node_numbers s from ≡ behind nodes (node_numbers s at)

pub no-nodes : (s : List ℕ) (from : ℕ) → Nodes s from from 0 0
unfolding packed then
no-nodes s from =
    record { nodes = []; count = refl; packs = refl; small = λ _. omega arith; passed = omega arith; others = same (node_numbers s from) }
  where
    same : (p : Parsed (List ℕ)) → p ≡ behind [] p
    same malformed = refl
    same (parsed vs next) = refl

module _ {s : List ℕ} {from at many word : ℕ} (h : Nodes s from at many word) where
  module _ (e : gap s at ≡ malformed) where
    pub no_end : line_end s at ≡ malformed → node_numbers s from ≡ malformed
    no_end f = h.others ∙ fails _ (none_more s at e ∙ fails _ f)

    pub all_read : {b : ℕ} → line_end s at ≡ parsed tt b → node_numbers s from ≡ parsed h.nodes b
    all_read {b} f = h.others ∙ goes _ (none_more s at e ∙ goes _ f refl) (ap (λ (l : List ℕ). parsed l b) (append-nil h.nodes))

  pub no_node : {g : List ℕ} {a : ℕ} → gap s at ≡ parsed g a → node s a ≡ malformed → node_numbers s from ≡ malformed
  no_node e f = h.others ∙ fails _ (one_more s at e ∙ fails _ f)

  pub packed-small : many < word_vertices → word < vertex_bound ^ 3
  packed-small l = omega (arith, h.small (omega arith), pow-le-pow_right {n = vertex_bound} (omega arith) {i = many} {j = 3} (omega arith))

  module _ {v b : ℕ} (t : Turn s at v b) where
    count_next : many + 1 ≡ length (h.nodes ++ (v ∷ []))
    count_next = omega (arith, h.count, length-append h.nodes (v ∷ []))

    others-next : node_numbers s from ≡ behind (h.nodes ++ (v ∷ [])) (node_numbers s b)
    others-next = h.others ∙ ap (behind h.nodes) (one_more s at t.parts ∙ goes _ t.read refl) ∙ behind-next h.nodes v (node_numbers s b)

    pub packed-in : {word' : ℕ} → many < word_vertices → word' ≡ word * vertex_bound + v → Nodes s from b (many + 1) word'
    packed-in {word'} l e = record {
      nodes = h.nodes ++ (v ∷ []);
      count = count_next;
      packs =
          omega (
            arith,
            packed-next h.nodes v,
            h.packs,
            ap packed (take_all word_vertices h.nodes (omega (arith, h.count))),
            ap packed (take_all word_vertices (h.nodes ++ (v ∷ [])) (omega (arith, count_next))),
          );
      small = λ _. rw (add-one many, pow-suc vertex_bound many) (omega (arith, h.small (omega arith), node-small t));
      passed = omega (arith, h.passed, (node-ends t).past);
      others = others-next;
    }

    pub packed-past : {word' : ℕ} → word_vertices ≤ many → word' ≡ word → Nodes s from b (many + 1) word'
    packed-past l e = record {
      nodes = h.nodes ++ (v ∷ []);
      count = count_next;
      packs = e ∙ h.packs ∙ ap packed (sym (take-append-le word_vertices h.nodes (v ∷ []) (omega (arith, h.count))));
      small = λ m. absurd (omega arith);
      passed = omega (arith, h.passed, (node-ends t).past);
      others = others-next;
    }

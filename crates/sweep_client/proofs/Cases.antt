-- The sheets and slices written out: used, from the number and the output of a call.
use mathlib.Core.Path.{◌≡◌, ap, ap₂, sym, ◌∙◌}
use mathlib.Core.List.{List}
use Prim.Native.Nat.{ℕ}
use native.Mathlib.Omega.{arith}
use Rattle.trials.specs.Trial.{done, refused, number_told}
use Rattle.sheet_format.specs.Check.{complex_refusal}
use Rattle.sheet_format.specs.OrderCases.{face_and_loose_node, edge_and_node}
use Rattle.sweeps.specs.Sweep.{sweep_call}
use Rattle.sweeps.specs.Cases.{lent}
use Rattle.sweeps.proofs.SweepLaws.{sweep-told, sweep-left}
use Rattle.sweep_client.specs.Used.{edge_left, Used}

pub used : (limit : ℕ) → sweep_call limit edge_and_node (lent 30) ≡ record { answer = done 24; output = edge_left }
    → sweep_call limit edge_and_node (lent 23) ≡ record { answer = refused 16; output = lent 23 } → complex_refusal limit face_and_loose_node ≡ 7
    → {sheet before after : List ℕ} {n : ℕ}
    → n ≡ number_told (sweep_call limit sheet before).answer → after ≡ (sweep_call limit sheet before).output → Used sheet before n after
used limit d s f {sheet} {before} {after} {n} e o = record {
  swept = λ t b. (number t b ∙ ap (λ c. number_told c.answer) d, output t b ∙ ap (λ c. c.output) d);
  face = λ t.
      let seven : number_told (sweep_call limit sheet before).answer ≡ 7 =
      ap (λ (x : List ℕ). number_told (sweep_call limit x before).answer) t ∙ sweep-told limit face_and_loose_node before (λ z. omega (arith, z, f)) ∙ f in
      (e ∙ seven, o ∙ sweep-left limit sheet before (λ z. omega (arith, z, seven)));
  short = λ t b. (number t b ∙ ap (λ c. number_told c.answer) s, output t b ∙ ap (λ c. c.output) s ∙ sym b);
}
  where
    number : {x y : List ℕ} → sheet ≡ x → before ≡ y → n ≡ number_told (sweep_call limit x y).answer
    number t b = e ∙ ap₂ (λ (x y : List ℕ). number_told (sweep_call limit x y).answer) t b

    output : {x y : List ℕ} → sheet ≡ x → before ≡ y → after ≡ (sweep_call limit x y).output
    output t b = o ∙ ap₂ (λ (x y : List ℕ). (sweep_call limit x y).output) t b

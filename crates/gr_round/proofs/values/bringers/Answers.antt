use Rattle.std.proofs.Common.{◌≡◌, ◌∙◌, ◌∷◌, List, [], length, eqb-true, refl, sym, subst, arith}
use Rattle.std.specs.Prelude.{flat_map}
use Rattle.gr_base.specs.Places.{without_place}
use Rattle.gr_batch.specs.declared.stage.Stage.TheVariants as stage
use Rattle.gr_batch.specs.Bodies.{parts_of}
use Rattle.gr_rules.specs.Inbox.{bodies}
use Rattle.gr_round.specs.Needs.{PartsFit, GathersFit, BringTheSame}
use Rattle.gr_round.proofs.Bringers.{fits-without, brings-without}
use Rattle.gr_round.proofs.values.bringers.Goals as goal
use Rattle.gr_round.proofs.values.bringers.Goals.{then-is_empty, else-is_empty}

pub returns-then-party-clause-sums : goal.returns-then-party-clause-sums
returns-then-party-clause-sums g c = λ rows arcs v. refl

pub loop-p-init : goal.loop-p-init
loop-p-init g c = record { sums = λ rows arcs v. refl; gathers = c.requires.gathers }

pub loop-p-preserved : goal.loop-p-preserved
loop-p-preserved g c =
    let p = g.P.VertexProgram.program_of c.args.given.now.program.now in
    let inbox = c.args.given.now.inbox.now in
    let e = c.args.party.now.epoch in
    let others = c.args.party.now.others in
    let q = c.loop-p.p in
    let before = c.loop-p.senders in
    elim c.if-is_empty.branch [
      | then-is_empty w ↦
          let none : flat_map parts_of (bodies inbox e stage.Gather (q ∷ [])) ≡ [] = sym c.parts_from.ensures ∙ nothing c.parts_from.result.now (eqb-true (length c.parts_from.result.now) 0 (sym c.is_empty.ensures ∙ w.if-is_empty.true)) in
          let is : c.if-is_empty.senders ≡ without_place before q = w.senders-is ∙ w.without-senders.ensures in
          record {
            sums = subst (BringTheSame p inbox e others) (sym is) (brings-without inbox e q p none others before c.loop-p.invariant.sums);
            gathers = subst (λ s. GathersFit inbox e s p) (sym is) (fits-without inbox e q (PartsFit p) before c.loop-p.invariant.gathers);
          }
      | else-is_empty w ↦ record {
        sums = subst (BringTheSame p inbox e others) (sym w.senders-is) c.loop-p.invariant.sums;
        gathers = subst (λ s. GathersFit inbox e s p) (sym w.senders-is) c.loop-p.invariant.gathers;
      }
    ]
  where
    nothing : {X : Type 0} (xs : List X) → length xs ≡ 0 → xs ≡ []
    nothing [] is = refl
    nothing (x ∷ xs) is = absurd (omega arith)

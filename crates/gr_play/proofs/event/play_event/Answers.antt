use Rattle.std.proofs.Common.{◌∙◌, refl, ap, subst, inr, take}
use Rattle.gr_batch.specs.Telling.{telling}
use Rattle.gr_report.specs.Goes.{goes_with}
use Rattle.gr_report.specs.Trace.{outcome_line}
use Rattle.gr_agree.specs.Agree.{Invariant}
use Rattle.gr_law_runs.proofs.Bounds.Outcomes.{step-goes}
use Rattle.gr_play.specs.Inside.Adding.{Adds}
use Rattle.gr_play.proofs.Onward.{OnErr-map}
use Rattle.gr_play.proofs.Placed.{placed-work, placed-crash}
use Rattle.gr_play.proofs.event.play_event.Goals as goal

pub tell-requires-clause-goes : goal.tell-requires-clause-goes
tell-requires-clause-goes g c =
    ap (λ x. goes_with c.args.event x.1) c.in-Ok.ensures.ok
    ∙ step-goes (g.P.VertexProgram.program_of c.args.cluster.now.program) c.args.cluster.now.cluster c.args.event

pub step-taken-requires-clause-worker : goal.step-taken-requires-clause-worker
step-taken-requires-clause-worker g c = placed-work c.args.cluster.now.cluster.places c.args.event c.requires.places

pub step-taken-requires-clause-crashed : goal.step-taken-requires-clause-crashed
step-taken-requires-clause-crashed g c = placed-crash c.args.cluster.now.cluster.places c.args.event c.requires.places

-- the line of a step that was taken is told in part
pub returns-in-Ok-clause-err : goal.returns-in-Ok-clause-err
returns-in-Ok-clause-err g c =
    let T = telling g.P.Value.Datum.numbers_of g.P.Acc.Datum.numbers_of in
    let taken = c.in-Ok.ensures.ok in
    OnErr-map c.tell.result (λ told. inr (record {
      cluster = ap (λ x. x.0) taken;
      counted = refl;
      part = told.0;
      added = subst (λ o. Adds c.args.traced (g.F.Files.seen c.args.files.now) (g.F.Files.seen c.tell.new.files) (take told.0 (outcome_line T c.args.event o))) (ap (λ x. x.1) taken) told.1;
    })) c.tell.ensures.err

pub returns-in-Ok-clause-agrees : goal.returns-in-Ok-clause-agrees
returns-in-Ok-clause-agrees g c =
    let A = c.mode-mode.ensures.agrees in
    subst (λ k. Invariant (g.P.VertexProgram.program_of k) c.step-taken.new.self.cluster) c.step-taken.ensures.program (A.state, A.holds)

pub returns-in-Err-clause-agrees : goal.returns-in-Err-clause-agrees
returns-in-Err-clause-agrees g c =
    let A = c.mode-mode.ensures.agrees in
    subst (λ k. Invariant (g.P.VertexProgram.program_of k) c.step-taken.new.self.cluster) c.step-taken.ensures.program (A.state, A.holds)

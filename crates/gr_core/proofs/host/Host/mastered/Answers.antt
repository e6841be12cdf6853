use Rattle.std.proofs.Common.{◌∙◌, ◌++◌, [], ◌∷◌, take, sym, ap, arith}
use Rattle.std.specs.List.{cons_option}
use Rattle.std.proofs.lemmas.List.{append-nil, take_all}
use Rattle.gr_base.proofs.Nth.{get-some, get-none}
use Rattle.gr_cluster.specs.Tables.{effective}
use Rattle.gr_core.specs.Values.{mastered_in, mastered_value}
use Rattle.gr_core.proofs.Mastered.{mastered-more, mastered-rises}
use Rattle.gr_core.proofs.host.Host.mastered.Goals as goal
use Rattle.gr_core.proofs.host.Host.mastered.Goals.{in-Some-mastered_value+in_ok-push, in_default-mastered_value}

pub loop-copy-preserved : goal.loop-copy-preserved
loop-copy-preserved g c =
    let p = c.args.p in
    let rows = effective c.args.commits c.args.self.now in
    let i = c.loop-copy.i in
    let x = c.in-Some.copy in
    let at = get-some rows i x c.in-Some.ensures.copy in
    let before = mastered_in p (take i rows) in
    let more = mastered-more p rows i x at.0 in
    let one = c.mastered_value.ensures ∙ ap (mastered_value p) at.1 in
    record {
      within = omega (arith, at.0);
      values = elim c.match-mastered_value.branch [
        | in-Some-mastered_value+in_ok-push w ↦
            let v = w.in-Some-mastered_value.value in
            let told = sym one ∙ w.in-Some-mastered_value.is in
            w.values-is ∙ w.in_ok-push.ensures.ok ∙ ap (λ l. l ++ v ∷ []) c.loop-copy.invariant.values
            ∙ sym (more ∙ ap (λ o. before ++ cons_option o []) told)
        | in_default-mastered_value w ↦
            let told = sym one ∙ w.in_default-mastered_value.is in
            w.values-is ∙ c.loop-copy.invariant.values
            ∙ sym (more ∙ ap (λ o. before ++ cons_option o []) told ∙ append-nil before)
      ];
    }

pub returns-clause-values : goal.returns-clause-values
returns-clause-values g c =
    let rows = effective c.args.commits c.args.self.now in
    c.loop-copy.invariant.values ∙ ap (mastered_in c.args.p) (take_all c.loop-copy.i rows (get-none rows c.loop-copy.i c.in_default.ensures.copy))

pub returns-clause-rise : goal.returns-clause-rise
returns-clause-rise g c =
    let rows = effective c.args.commits c.args.self.now in
    rw (c.loop-copy.invariant.values ∙ ap (mastered_in c.args.p) (take_all c.loop-copy.i rows (get-none rows c.loop-copy.i c.in_default.ensures.copy))) (mastered-rises c.args.p rows c.in_default.ensures.rise)

use Rattle.std.proofs.Common.{◌≡◌, ◌∙◌, ◌<◌, length, None, get_or, ap, sym, subst, arith}
use Rattle.std.proofs.lemmas.List.{get_or_default}
use Rattle.gr_base.specs.Rising.{RisesBy}
use Rattle.gr_log.specs.Directory.{with_items}
use Rattle.gr_cluster.specs.Tables.{host, effective}
use Rattle.gr_cluster.specs.Ending.{values_at, results_of}
use Rattle.gr_core.specs.Values.{vertex_in, mastered_in}
use Rattle.gr_core.proofs.Results.{merged_below, merged-more, merged-rises, values-up, values-down}
use Rattle.gr_core.proofs.cluster.Cluster.results.Goals as goal
use Rattle.gr_core.proofs.cluster.Cluster.results.Goals.{in-Some+in_ok-news+in_ok-values, in_default}

pub loop-p-preserved : goal.loop-p-preserved
loop-p-preserved g c =
    let t = c.args.self.now.cluster in
    let p = c.loop-p.p in
    let items = c.self.inside.hosts.items in
    let slot = c.index.result.now in
    let tables : t.hosts ≡ items = sym (ap (λ x. x.cluster.hosts) c.self.view_is) in
    let commits : c.self.inside.coordinator.commits ≡ t.coordinator.commits = ap (λ x. x.cluster.coordinator.commits) c.self.view_is in
    let lt : p < length items = omega (arith, ap length tables, c.places-p-end.ensures.hosts, c.places-p-end.ensures.count, c.loop-p-test.true) in
    let slot_is : slot ≡ host t p = c.index.ensures ∙ ap (λ k. get_or items k slot) c.from.ensures ∙ get_or_default items p slot None lt ∙ sym (ap (λ l. get_or l p None) tables) in
    elim c.match-index.branch [
      | in-Some+in_ok-news+in_ok-values w ↦
          let h = w.in-Some.host in
          let news : w.in_ok-news.news ≡ values_at t p =
          w.in_ok-news.ensures.values ∙ ap (λ n. mastered_in p (effective n h)) commits ∙ sym (values-up t p h (sym slot_is ∙ w.in-Some.is)) in
          w.values-is ∙ w.in_ok-values.ensures.items
          ∙ (λ k. with_items vertex_in (w.as_slice-in-Some.ensures k) (w.as_slice.ensures k))
          ∙ (λ k. with_items vertex_in (news k) (c.loop-p.invariant k)) ∙ sym (merged-more t p)
      | in_default w ↦
          w.values-is ∙ c.loop-p.invariant
          ∙ sym (merged-more t p ∙ ap (λ l. with_items vertex_in l (merged_below t p)) (values-down t p (sym slot_is ∙ w.in_default.is)))
    ]

pub merge-requires-clause-earlier_rise : goal.merge-requires-clause-earlier_rise
merge-requires-clause-earlier_rise g c =
    let t = c.args.self.now.cluster in
    subst (RisesBy vertex_in) (sym (c.as_slice.ensures ∙ c.loop-p.invariant)) (merged-rises t c.loop-p.p)

pub returns : goal.returns
unfolding results_of
returns g c =
    let t = c.args.self.now.cluster in
    let whole : c.loop-p.p ≡ t.places = omega (arith, c.places-p-end.ensures.count, c.loop-p-test.false, c.loop-p.auto.p-end) in
    c.loop-p.invariant ∙ ap (merged_below t) whole

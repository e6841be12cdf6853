use Rattle.std.proofs.Common.{◌∙◌, [], ap, sym, take, slice_index_or, List, ℕ}
use Rattle.std.specs.Prelude.{unwrap_or}
use Rattle.std.specs.BTreeMap as table
use Rattle.std.specs.BTreeMap.{is_at}
use Rattle.std.specs.Ordering.{nat_cmp}
use Rattle.std.specs.Map.{lookup}
use Rattle.std.proofs.lemmas.List.{take_more}
use Rattle.gr_base.specs.Places.{with_place}
use Rattle.gr_migrate.specs.Askers.{askers}
use Rattle.gr_migrate.specs.declared.grant.AskFrom.{AskFrom}
use Rattle.gr_migrate.proofs.GrantLines.{askers-none, askers-more}
use Rattle.gr_migrate.proofs.grant.askers_by_vertex.Goals as goal

abbrev none : AskFrom
none = record { vertex = 0; asker = 0 }

pub loop-ask-init : goal.loop-ask-init
loop-ask-init c = λ v. ap (λ es. unwrap_or (lookup (is_at (nat_cmp v)) es) []) c.new-sets.ensures.empty ∙ sym (askers-none v)

pub loop-ask-preserved : goal.loop-ask-preserved
loop-ask-preserved c = λ v.
    let xs = c.args.asked.now in
    let i = c.loop-ask.ask-index in
    let a = slice_index_or xs i none in
    askers-more (take i xs) a v c.with-set.result (table.get nat_cmp c.loop-ask.sets v) (table.get nat_cmp c.insert.new.self v) (c.loop-ask.invariant v)
    (c.with-set.ensures ∙ ap (λ (s : List ℕ). with_place s a.asker) (c.askers_of.ensures ∙ c.loop-ask.invariant a.vertex))
    (c.in_ok-insert.ensures.updates.0 v)
    ∙ ap (λ l. askers l v) (sym (take_more xs i none c.loop-ask-test.true))

use Rattle.std.proofs.Common.{◌∙◌, length, map, ap, sym}
use Rattle.std.proofs.lemmas.List.FromFn.{length-map-range_with_len}
use Rattle.gr_base.specs.Places.{below}
use Rattle.gr_core.specs.Decided.{spare_at, hosts_opened}
use Rattle.gr_core.proofs.Spares.{spares-placed}
use Rattle.gr_core.proofs.cluster.spares.start_spares.Goals as goal

pub place_spares-requires-clause-as_many : goal.place_spares-requires-clause-as_many
place_spares-requires-clause-as_many g c =
    let slice = c.as_slice.result.now in
    ap length c.in_ok-spares.ensures
    ∙ (length-map-range_with_len (spare_at {V = g.row.P-Value.Denot} {A = g.row.P-Acc.Denot} c.args.reborn c.in-Opened.epoch c.args.commits slice) 0 (length slice)
    ∙ (ap length c.as_slice.ensures.value ∙ c.requires.as_many))

pub returns-clause-hosts : goal.returns-clause-hosts
returns-clause-hosts g c =
    let logs = c.args.logs.now.items in
    let e = c.in-Opened.epoch in
    let table = c.in_ok-spares.ensures ∙ ap (λ l. map (spare_at {V = g.row.P-Value.Denot} {A = g.row.P-Acc.Denot} c.args.reborn e c.args.commits l) (below (length l))) c.as_slice.ensures.value in
    c.place_spares.ensures
    ∙ (spares-placed c.args.reborn e c.args.commits logs c.args.hosts.now.items c.in_ok-spares.spares.items c.requires.as_many table
    ∙ ap (λ o. hosts_opened c.args.reborn c.args.commits o logs c.args.hosts.now.items) (sym c.in-Opened.is))

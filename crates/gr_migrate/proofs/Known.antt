-- Where the masters are known in the logs of the places that retire, they are known at the ends of the edges there.
use Rattle.std.proofs.Common.{◌≡◌, ℕ, List, true, ◌==◌, Option, Some, None, flat_map, [], ◌∷◌, find}
use Rattle.std.specs.Prelude.{IfSome}
use Rattle.std.specs.List.{All, AllByRecursion as Each}
use Rattle.std.proofs.lemmas.List.Elements.{All-from_recursion, recursion_from_All}
use Rattle.gr_base.specs.declared.records.NumberedEdge.{NumberedEdge}
use Rattle.gr_lists.proofs.Each.{Each-always, Each-append}
use Rattle.gr_lists.proofs.Chosen.{Each-find, Each-filter_map}
use Rattle.gr_copies.specs.declared.view.RebuildView.{RebuildView}
use Rattle.gr_log.specs.Log.{Log}
use Rattle.gr_log.specs.Directory.{Entry, directory_in, kept_edges}
use Rattle.gr_rules.specs.Taken.{Ends, ends_of, edges_with_ends, log_at}
use Rattle.gr_migrate.specs.Ends.{ends_among, KnowsMaster, KnowsMasters, MastersKnown, retired_edges, retiring}

both-known : (a : NumberedEdge) (s d : Option Entry) → IfSome s KnowsMaster → IfSome d KnowsMaster → IfSome (ends_of a s d) KnowsMasters
both-known a None d hs hd = tt
both-known a (Some s) None hs hd = tt
both-known a (Some s) (Some d) hs hd = record { src = hs; dst = hd }

found-known : (es : List Entry) (v : ℕ) → Each KnowsMaster es → IfSome (find (λ e. e.vertex == v) es) KnowsMaster
found-known es v known = weaker (find (λ e. e.vertex == v) es) (Each-find KnowsMaster (λ e. e.vertex == v) es known)
  where
    weaker : (o : Option Entry) → IfSome o (λ e. ((e.vertex == v) ≡ true) × KnowsMaster e) → IfSome o KnowsMaster
    weaker None h = tt
    weaker (Some e) h = h.1

-- at the ends of the edges of one log
at-log : (w : RebuildView) (logs : List Log) (r : ℕ) → All KnowsMaster (directory_in (log_at logs r).committed) → Each KnowsMasters (edges_with_ends (log_at logs r).committed)
unfolding edges_with_ends
at-log w logs r here =
    let rs = (log_at logs r).committed in
    let each = recursion_from_All KnowsMaster (directory_in rs) here in
    Each-filter_map (ends_among (directory_in rs)) KnowsMasters (kept_edges rs)
    (Each-always (λ a. IfSome (ends_among (directory_in rs) a) KnowsMasters)
    (λ a. both-known a (find (λ e. e.vertex == a.edge.src) (directory_in rs)) (find (λ e. e.vertex == a.edge.dst) (directory_in rs)) (found-known (directory_in rs) a.edge.src each) (found-known (directory_in rs) a.edge.dst each)) (kept_edges rs))

-- so of all of them
pub retired-known : (w : RebuildView) (logs : List Log) → MastersKnown w logs → All KnowsMasters (retired_edges w logs)
unfolding retired_edges
retired-known w logs known =
    All-from_recursion KnowsMasters (flat_map part (retiring w)) (each (retiring w) (recursion_from_All (λ q. All KnowsMaster (directory_in (log_at logs q).committed)) (retiring w) known))
  where
    part : ℕ → List Ends
    part r = edges_with_ends (log_at logs r).committed

    each : (ps : List ℕ) → Each (λ q. All KnowsMaster (directory_in (log_at logs q).committed)) ps → Each KnowsMasters (flat_map part ps)
    each [] h = tt
    each (p ∷ ps) h = Each-append KnowsMasters (part p) (flat_map part ps) (at-log w logs p h.0) (each ps h.1)

-- The hosts that start on spares, taken out of a table with an entry for each place.
use Rattle.std.proofs.Common.{◌≡◌, ◌∙◌, ◌<◌, ℕ, List, ap, arith, length, map, get_or, Option, Some, None, zero-add}
use Rattle.std.specs.Prelude.{if◌then◌else◌}
use Rattle.std.proofs.lemmas.List.{get_or-map}
use Rattle.std.proofs.lemmas.List.FromFn.{length-range_with_len, get_or-range_with_len}
use Rattle.gr_base.specs.Places.{below}
use Rattle.gr_log.specs.Log.{Log}
use Rattle.gr_rules.specs.Taken.{log_at}
use Rattle.gr_view.specs.declared.coordinator.Opening.TheVariants as opening
use Rattle.gr_cluster.specs.Tables.{Host, changed_at}
use Rattle.gr_cluster.specs.Step.{reborn_host}
use Rattle.gr_core.specs.Decided.{spare_at, hosts_opened}
use Rattle.gr_core.proofs.Changed.{changed-agree}

module _ {V A : Type 0} (ps : List ℕ) (e commits : ℕ) (logs : List Log) where
  abbrev table : List (Option (Host V A))
  table = map (spare_at ps e commits logs) (below (length logs))

  spare-in : (p : ℕ) → p < length logs → get_or table p None ≡ spare_at ps e commits logs p
  spare-in p lt =
      let n = length logs in
      let lt' : p < length (below n) = let many = length-range_with_len 0 n in omega (arith, many) in
      get_or-map (spare_at ps e commits logs) (below n) p 0 None lt' ∙ ap (spare_at ps e commits logs) (get_or-range_with_len 0 n p 0 lt ∙ zero-add p)

  pub spares-placed : (hosts spares : List (Option (Host V A))) → length logs ≡ length hosts → spares ≡ table
      → changed_at ps (λ p _. get_or spares p None) hosts ≡ hosts_opened ps commits (opening.Opened e) logs hosts
  spares-placed hosts spares as_many is =
      changed-agree ps (λ p _. get_or spares p None) (λ p _. Some (reborn_host e commits (log_at logs p).committed)) hosts None
      (λ p lt on. ap (λ l. get_or l p None) is ∙ (spare-in p (omega (arith, as_many)) ∙ ap (λ b. if b then Some (reborn_host e commits (log_at logs p).committed) else None) on))

-- The places that an event names are places of the cluster.
use Rattle.std.proofs.Common.{◌≡◌, ◌<◌, ℕ, true, nat_lt, ap, ◌∙◌, ltb-true, sym}
use Rattle.std.specs.Prelude.{IsTrue}
use Rattle.std.proofs.lemmas.Bool.{and_parts}
use Rattle.gr_sched.specs.declared.event.Event.{Event}
use Rattle.gr_sched.specs.declared.event.Event.TheVariants as event
use Rattle.gr_sched.specs.declared.event.Line.TheVariants as line
use Rattle.gr_sched.specs.Reading.{places_of, are_below}

module _ (places : ℕ) (e : Event) (placed : IsTrue (are_below places (places_of (line.Step e)))) where
  pub placed-work : (p : ℕ) → e ≡ event.Work p → p < places
  placed-work p is = ltb-true p places (and_parts (nat_lt p places) true (sym (ap (λ k. are_below places (places_of (line.Step k))) is) ∙ placed)).0

  pub placed-crash : (p n : ℕ) → e ≡ event.Crash p n → p < places
  placed-crash p n is = ltb-true p places (and_parts (nat_lt p places) true (sym (ap (λ k. are_below places (places_of (line.Step k))) is) ∙ placed)).0

-- What each event of a schedule meets, the next event meets, and so do the lines that are left.
use Rattle.std.proofs.Common.{◌≡◌, List, [], ◌∷◌, Bool, true, false, subst, Option, Some, None}
use Rattle.std.specs.List.{AllByRecursion as Each}
use Rattle.gr_sched.specs.declared.event.Event.{Event}
use Rattle.gr_sched.specs.declared.event.Line.{Line}
use Rattle.gr_sched.specs.declared.event.Line.TheVariants as line
use Rattle.gr_cluster.specs.Runs.{event_of, lines_after}

module _ (R : Line → Type 0) where
  pub lines-meet : (o : Option Event) (b : Bool) (ls : List Line) → Each R ls → Each R (lines_after o b ls)
  lines-meet o b [] a = a
  lines-meet o b (line.Step d ∷ ls) a = a.1
  lines-meet None b (line.Settle ∷ ls) a = lines-meet None b ls a.1
  lines-meet (Some d) true (line.Settle ∷ ls) a = a.1
  lines-meet (Some d) false (line.Settle ∷ ls) a = a
  lines-meet None b (line.Finish ∷ ls) a = lines-meet None b ls a.1
  lines-meet (Some d) b (line.Finish ∷ ls) a = a

-- where the canonical event meets it too
module _ (Q : Event → Type 0) (R : Line → Type 0) (of_step : (e : Event) → R (line.Step e) → Q e) where
  pub event-meets : (o : Option Event) → ((e : Event) → o ≡ Some e → Q e) → (ls : List Line) → Each R ls → (e : Event) → event_of o ls ≡ Some e → Q e
  event-meets o h [] a e is = absurd (cc)
  event-meets o h (line.Step d ∷ ls) a e is = let same : d ≡ e = cc in subst Q same (of_step d a.0)
  event-meets None h (line.Settle ∷ ls) a e is = event-meets None h ls a.1 e is
  event-meets (Some d) h (line.Settle ∷ ls) a e is = h e is
  event-meets None h (line.Finish ∷ ls) a e is = event-meets None h ls a.1 e is
  event-meets (Some d) h (line.Finish ∷ ls) a e is = h e is

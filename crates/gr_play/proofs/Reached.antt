-- What the events of a line play, and add to the trace.
use Rattle.std.proofs.Common.{◌≡◌, ℕ, ◌+◌, List, [], ◌∷◌, take, length, Bool, true, false, ◌&&◌, refl, sym, ap, ◌∙◌, subst, Some, None, add_assoc, add-zero, zero-add, ◌⊎◌, inl, inr}
use Rattle.std.proofs.Math.Seq.{take-append-add}
use Rattle.gr_lists.proofs.Tests.{by_test}
use Rattle.gr_program.specs.Program.{Program}
use Rattle.gr_batch.specs.Telling.{Telling}
use Rattle.gr_outside.specs.Files.{FilesSeen}
use Rattle.gr_sched.specs.declared.event.Event.{Event}
use Rattle.gr_sched.specs.declared.event.Line.{Line}
use Rattle.gr_sched.specs.declared.event.Line.TheVariants as line
use Rattle.gr_cluster.specs.Tables.{Cluster}
use Rattle.gr_cluster.specs.Step.{step}
use Rattle.gr_cluster.specs.Canonical.{next_canonical}
use Rattle.gr_cluster.specs.Runs.{Position, IsWhole, is_commit, event_of, lines_after, next_event, next_position, position_after}
use Rattle.gr_play.specs.Playing.{start, Plays}
use Rattle.gr_play.specs.Inside.Progress.{canonical_line, SameFrom, PlaysTo, PlaysPart, PlaysEvent, FailsBefore, FailsAfter}
use Rattle.gr_play.specs.Inside.Adding.{Adds}
use Rattle.gr_play.specs.TracedSteps.{text_of_steps}
use Rattle.gr_play.proofs.Adding.{Adds-nothing, Adds-trans}
use Rattle.gr_play.proofs.Positions.{Leads-nothing, Leads-one, Leads-trans, Leads-plays, Leads-Plays, Plays-nothing, next-some, text-nothing, text-one, text-add}

module _ {V A : Type 0} (P : Program V A) (T : Telling V A) (traced : Bool) where
  -- a call that played on from where another had come
  pub PlaysTo-trans : (from mid to : ℕ) (a b d : FilesSeen) (s t u : Position V A) → PlaysTo P T traced from mid a b s t → PlaysTo P T traced mid to b d t u → PlaysTo P T traced from to a d s u
  PlaysTo-trans from mid to a b d s t u x y = record {
    taken = x.taken + y.taken;
    counted = y.counted ∙ ap (λ n. n + y.taken) x.counted ∙ add_assoc from x.taken y.taken;
    leads = Leads-trans P s t u x.taken y.taken x.leads y.leads;
    added = subst (Adds traced a d) (sym (text-add P T s t x.taken y.taken x.leads))
        (Adds-trans traced a b d (text_of_steps P T s x.taken) (text_of_steps P T t y.taken) x.added y.added);
  }

  pub PlaysTo-part : (from mid to : ℕ) (a b d : FilesSeen) (s t : Position V A) (end : Cluster V A) → PlaysTo P T traced from mid a b s t → PlaysPart P T traced mid to b d t end → PlaysPart P T traced from to a d s end
  PlaysTo-part from mid to a b d s t end x y =
      let had = text_of_steps P T s x.taken in
      let more = text_of_steps P T t y.taken in
      record {
        taken = x.taken + y.taken;
        counted = y.counted ∙ ap (λ n. n + y.taken) x.counted ∙ add_assoc from x.taken y.taken;
        plays = Leads-plays P s t x.taken y.taken end x.leads y.plays;
        part = length had + y.part;
        added = subst (Adds traced a d) (sym (ap (take (length had + y.part)) (text-add P T s t x.taken y.taken x.leads) ∙ take-append-add had more y.part))
            (Adds-trans traced a b d had (take y.part more) x.added y.added);
      }

  -- nothing was played yet
  pub PlaysTo-nothing : (from to : ℕ) (a b : FilesSeen) (s t : Position V A) → to ≡ from → b ≡ a → SameFrom P s t → PlaysTo P T traced from to a b s t
  PlaysTo-nothing from to a b s t counted untouched same = record {
    taken = 0;
    counted = counted ∙ sym (add-zero from);
    leads = Leads-nothing P s t same;
    added = subst (Adds traced a b) (sym (text-nothing P T s)) (Adds-nothing traced a b untouched);
  }

  -- where no line is left the run is whole
  pub PlaysTo-whole : (from to : ℕ) (a b : FilesSeen) (s : Position V A) (c : Cluster V A) → from ≡ 0 → PlaysTo P T traced from to a b s (start c []) → IsWhole (position_after P to s)
  unfolding next_event
  PlaysTo-whole from to a b s c none x =
      let counted : x.taken ≡ to = sym (x.counted ∙ ap (λ n. n + x.taken) none ∙ zero-add x.taken) in
      subst (λ n. IsWhole (position_after P n s)) counted ((x.leads).same).event

  module _ (from to : ℕ) (a b : FilesSeen) (s : Position V A) (e : Event) (d : Cluster V A) (is : next_event s ≡ Some e) where
    -- the event that comes next was played
    pub PlaysTo-event : (commits : Bool) (t : Position V A) → next_position P s ≡ t → PlaysEvent P T traced from to a b s.cluster e d commits → PlaysTo P T traced from to a b s t
    PlaysTo-event commits t next x = record {
      taken = 1;
      counted = x.counted;
      leads = Leads-one P s t e is next;
      added = subst (Adds traced a b) (sym (text-one P T s e is)) x.added;
    }

    pub PlaysPart-event : FailsBefore P T traced from to a b s.cluster e d ⊎ FailsAfter P T traced from to a b s.cluster e d → PlaysPart P T traced from to a b s d
    PlaysPart-event (inl x) = record {
      taken = 0;
      counted = x.counted ∙ sym (add-zero from);
      plays = subst (Plays P s 0) (sym x.cluster) (Plays-nothing P s);
      part = 0;
      added = Adds-nothing traced a b x.untouched;
    }
    PlaysPart-event (inr x) = record {
      taken = 1;
      counted = x.counted;
      plays = subst (Plays P s 1) (next-cluster ∙ sym x.cluster) (Leads-Plays P s (next_position P s) 1 (Leads-one P s (next_position P s) e is refl));
      part = x.part;
      added = subst (λ l. Adds traced a b (take x.part l)) (sym (text-one P T s e is)) x.added;
    }
      where
        next-cluster : (next_position P s).cluster ≡ (step P s.cluster e).0
        next-cluster = ap (λ x. x.cluster) (next-some P s e is)

-- the positions of a line that canonical events are played for
module _ {V A : Type 0} (P : Program V A) (c : Cluster V A) (rest : List Line) where
  abbrev at_line : Bool → Position V A
  at_line through = start c (canonical_line through ∷ rest)

  pub event-at_line : (through : Bool) (e : Event) → next_canonical c ≡ Some e → next_event (at_line through) ≡ Some e
  unfolding next_event
  event-at_line true e is = rw is refl
  event-at_line false e is = rw is refl

  -- it stays until a commit ends it
  pub next-goes_on : (through : Bool) (e : Event) → next_canonical c ≡ Some e → (is_commit (step P c e).1 && through) ≡ false → next_position P (at_line through) ≡ start (step P c e).0 (canonical_line through ∷ rest)
  next-goes_on through e is off = next-some P (at_line through) e (event-at_line through e is) ∙ ap (start (step P c e).0) (of through off ∙ refl)
    where
      of : (through : Bool) → (is_commit (step P c e).1 && through) ≡ false → lines_after (next_canonical c) (is_commit (step P c e).1) (canonical_line through ∷ rest) ≡ canonical_line through ∷ rest
      of false off = rw is refl
      of true off = by_test (is_commit (step P c e).1)
          (λ y. absurd (let bad : true ≡ false = rw y at off in cc))
          (λ n. rw (is, n) refl)

  pub next-commits : (through : Bool) (e : Event) → next_canonical c ≡ Some e → (is_commit (step P c e).1 && through) ≡ true → next_position P (at_line through) ≡ start (step P c e).0 rest
  next-commits through e is on = next-some P (at_line through) e (event-at_line through e is) ∙ ap (start (step P c e).0) (of through on)
    where
      of : (through : Bool) → (is_commit (step P c e).1 && through) ≡ true → lines_after (next_canonical c) (is_commit (step P c e).1) (canonical_line through ∷ rest) ≡ rest
      of true on = by_test (is_commit (step P c e).1)
          (λ y. rw (is, y) refl)
          (λ n. absurd (let bad : false ≡ true = rw n at on in cc))
      of false on = by_test (is_commit (step P c e).1)
          (λ y. absurd (let bad : false ≡ true = rw y at on in cc))
          (λ n. absurd (let bad : false ≡ true = rw n at on in cc))

  -- where none comes the line is passed
  none-passed : (through : Bool) → next_canonical c ≡ None → next_event (at_line through) ≡ next_event (start c rest)
  unfolding next_event
  none-passed true none = ap (λ o. event_of o (line.Settle ∷ rest)) none ∙ sym (ap (λ o. event_of o rest) none)
  none-passed false none = ap (λ o. event_of o (line.Finish ∷ rest)) none ∙ sym (ap (λ o. event_of o rest) none)

  lines-passed : (through b : Bool) → next_canonical c ≡ None → lines_after (next_canonical c) b (canonical_line through ∷ rest) ≡ lines_after (next_canonical c) b rest
  lines-passed true b none = ap (λ o. lines_after o b (line.Settle ∷ rest)) none ∙ sym (ap (λ o. lines_after o b rest) none)
  lines-passed false b none = ap (λ o. lines_after o b (line.Finish ∷ rest)) none ∙ sym (ap (λ o. lines_after o b rest) none)

  pub same-passed : (through : Bool) → next_canonical c ≡ None → SameFrom P (at_line through) (start c rest)
  same-passed through none = record {
    cluster = refl;
    event = none-passed through none;
    next = λ e is. next-some P (at_line through) e is
        ∙ ap (start (step P c e).0) (lines-passed through (is_commit (step P c e).1) none)
        ∙ sym (next-some P (start c rest) e (sym (none-passed through none) ∙ is));
  }

  -- the position of an event
  pub event-at_step : (e : Event) → next_event (start c (line.Step e ∷ rest)) ≡ Some e
  unfolding next_event
  event-at_step e = refl

  pub next-at_step : (e : Event) → next_position P (start c (line.Step e ∷ rest)) ≡ start (step P c e).0 rest
  next-at_step e = next-some P (start c (line.Step e ∷ rest)) e (event-at_step e)

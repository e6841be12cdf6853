-- What a crash makes of a cluster, and how many bytes of a log's tail it keeps.
use Rattle.std.proofs.Common.{◌≡◌, ◌≤◌, ◌+◌, ◌-◌, ℕ, List, [], ◌∷◌, true, false, refl, sym, ap, ◌∙◌, arith, Option, Some, None, length, min, take, drop, set, leb, leb-true}
use Rattle.std.specs.Prelude.{is_some}
use Rattle.std.proofs.lemmas.List.{length-append, length-take, length-drop, set-get_or}
use Rattle.gr_program.specs.Program.{Program}
use Rattle.gr_log.specs.declared.record.LogRecord.{LogRecord}
use Rattle.gr_log.specs.Bytes.{record_bytes, records_bytes, size_of}
use Rattle.gr_log.specs.Log.{Log, tail_bytes, tail_size, whole_in, torn_log}
use Rattle.gr_batch.specs.declared.outcome.Outcome.TheVariants as outcome
use Rattle.gr_sched.specs.declared.event.Event.TheVariants as event
use Rattle.gr_view.specs.Modes.{is_over}
use Rattle.gr_cluster.specs.Tables.{Host, Cluster, host, log}
use Rattle.gr_cluster.specs.Network.{crashed}
use Rattle.gr_cluster.specs.Step.{step}
use Rattle.gr_lists.proofs.Tests.{by_test}
use Rattle.gr_core.proofs.Network.{step-taken}

-- the records that stand whole in the first n bytes have no more than n, and no more than all
size-whole_in : (n : ℕ) (rs : List LogRecord) → (size_of (whole_in n rs) ≤ n) × (size_of (whole_in n rs) ≤ size_of rs)
size-whole_in n [] = (omega arith, omega arith)
size-whole_in n (r ∷ rs) =
    let k = length (record_bytes r) in
    by_test (leb k n)
    (λ y.
    let ih = size-whole_in (n - k) rs in
    let le = leb-true k n y in
    let here : size_of (r ∷ whole_in (n - k) rs) ≡ k + size_of (whole_in (n - k) rs) = length-append (record_bytes r) (records_bytes (whole_in (n - k) rs)) in
    let all : size_of (r ∷ rs) ≡ k + size_of rs = length-append (record_bytes r) (records_bytes rs) in
    let a = ih.0 in let b = ih.1 in rw y (omega (arith, le, here, all, a), omega (arith, le, here, all, b)))
    (λ y. rw y (omega arith, omega arith))

-- a crash that keeps n bytes of a tail keeps as many, or all
pub tail_size-torn_log : (n : ℕ) (l : Log) → tail_size (torn_log n l) ≡ min n (tail_size l)
tail_size-torn_log n l =
    let whole = whole_in n l.appended in
    let kept = take n (tail_bytes l) in
    let S = size-whole_in n l.appended in
    let a = S.0 in let b = S.1 in
    let long : length kept ≡ min n (tail_size l) = length-take n (tail_bytes l) in
    let all : tail_size l ≡ size_of l.appended + length l.torn = length-append (records_bytes l.appended) l.torn in
    let rest : length (drop (size_of whole) kept) ≡ length kept - size_of whole = length-drop (size_of whole) kept in
    let sum : tail_size (torn_log n l) ≡ size_of whole + length (drop (size_of whole) kept) = length-append (records_bytes whole) (drop (size_of whole) kept) in
    omega (arith, a, b, long, all, rest, sum)

module _ {V A : Type 0} (P : Program V A) (c : Cluster V A) (over : is_over c.coordinator.mode ≡ false) (p n : ℕ) where
  abbrev torn : Log
  torn = torn_log n (log c p)

  pub crash-up : (hs : List (Option (Host V A))) (ls : List Log) (kept : ℕ) → is_some (host c p) ≡ true → hs ≡ set c.hosts p None → ls ≡ set c.logs p torn → kept ≡ min n (tail_size (log c p))
      → (record c { hosts = hs; logs = ls }, outcome.Crashed kept) ≡ step P c (event.Crash p n)
  unfolding crashed
  crash-up hs ls kept up hosts logs many = of (host c p) up ∙ sym (step-taken P c (event.Crash p n) over)
    where
      of : (o : Option (Host V A)) → is_some o ≡ true → (record c { hosts = hs; logs = ls }, outcome.Crashed kept) ≡ crashed c p n o
      of None up = absurd (let bad : false ≡ true = up in cc)
      of (Some h) up = let many' = many ∙ sym (tail_size-torn_log n (log c p)) in λ i. (record c { hosts = hosts i; logs = logs i }, outcome.Crashed (many' i))

  pub crash-down : (hs : List (Option (Host V A))) → is_some (host c p) ≡ false → hs ≡ set c.hosts p None → (record c { hosts = hs }, outcome.Idle) ≡ step P c (event.Crash p n)
  unfolding crashed
  crash-down hs down hosts = of (host c p) refl down ∙ sym (step-taken P c (event.Crash p n) over)
    where
      of : (o : Option (Host V A)) → host c p ≡ o → is_some o ≡ false → (record c { hosts = hs }, outcome.Idle) ≡ crashed c p n o
      of None at down = ap (λ l. (record c { hosts = l }, outcome.Idle)) (hosts ∙ (ap (set c.hosts p) (sym at) ∙ set-get_or c.hosts p None))
      of (Some h) at down = absurd (let bad : true ≡ false = down in cc)

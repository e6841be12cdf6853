-- A job that is accepted keeps to the ranges of its keys.
use Rattle.std.proofs.Common.{◌≡◌, ◌≤◌, ◌<◌, ◌^◌, ℕ, List, [], false, Option, Some, None, Result, Ok, Err, refl, subst, arith, lit≤}
use Rattle.std.specs.Prelude.{IfSome, ◌&&◌, nat_le, pos, negsuc, codes}
use Rattle.std.proofs.lemmas.Bool.{and_parts, leb-true}
use Rattle.toml.specs.Data.{Data, Members, integer, get_member}
use Rattle.gr_job.specs.declared.fault.JobFault.{JobFault}
use Rattle.gr_job.specs.Job.{JobValues, ◌>>=◌, required, default, required_if, under, row, only_known_keys, job_of_table, job_of_document, document_of, job_of}
use Rattle.gr_job.specs.Names.{needs_source, needs_k, needs_seeds}
use Rattle.gr_job.specs.Kinds.{integer_in, boolean_value, program_name, integers_in}
use Rattle.gr_agree.specs.Accepted.{IsSetting}
use Rattle.gr_lists.proofs.Tests.{by_test}
use Rattle.imitate.specs.Running.{setting_in}

-- where two steps have a value, so has the first, and with that the second
step-of : {A B : Type 0} (r : Result A JobFault) (f : A → Result B JobFault) (b : B) → (r >>= f) ≡ Ok b → (a : A) × (r ≡ Ok a) × (f a ≡ Ok b)
step-of (Ok a) f b e = (a, refl, e)
step-of (Err fault) f b e = absurd (cc)

abbrev read_as : JobValues → Result JobValues JobFault
read_as job = Ok job

read-same : (a b : JobValues) → read_as a ≡ read_as b → a ≡ b
read-same a b e = cc

-- a number is within a range
abbrev IsIn : ℕ → ℕ → ℕ → Type 0
IsIn least most n = (least ≤ n) × (n ≤ most)

integer-within : (least most : ℕ) (key : List ℕ) (d : Data) (n : ℕ) → integer_in least most key d ≡ Ok n → IsIn least most n
integer-within least most key (integer (pos m)) n e = by_test (nat_le least m && nat_le m most)
    (λ t.
    let same : Ok m ≡ Ok n = rw t at e in
    let here : m ≡ n = cc in
    let both = and_parts (nat_le least m) (nat_le m most) t in
    subst (IsIn least most) here (leb-true least m both.0, leb-true m most both.1))
    (λ f. absurd (let bad = rw f at e in cc))
integer-within least most key (integer (negsuc m)) n e = absurd (cc)
integer-within least most key other n e = absurd (cc)

-- what stands under a key of the table, or the default where it is absent
under-within : (least most : ℕ) (key : List ℕ) (absent : Option ℕ) (found : Option Data) → IfSome absent (IsIn least most) → (n : ℕ)
    → under key (integer_in least most) absent found ≡ Ok n → IsIn least most n
under-within least most key absent (Some d) h n e = integer-within least most key d n e
under-within least most key (Some value) None h n e = let here : value ≡ n = cc in subst (IsIn least most) here h
under-within least most key None None h n e = absurd (cc)

below-next : (n : ℕ) → n ≤ 4294967295 → n < 2 ^ 32
below-next n le = omega (arith, le)

-- the ranges that a cluster is made for
abbrev IsInRanges : JobValues → Type 0
IsInRanges job = IsSetting (setting_in job)

table-in_ranges : (t : Members) (job : JobValues) → job_of_table t ≡ Ok job → IsInRanges job
unfolding job_of_table
table-in_ranges t job e =
    let known = step-of (only_known_keys t) _ job e in
    let places = step-of (row (codes "places") (integer_in 1 64) required t) _ job known.2 in
    let spares = step-of (row (codes "spares") (integer_in 0 64) (default 0) t) _ job places.2 in
    let losses = step-of (row (codes "losses") (integer_in 0 7) (default 1) t) _ job spares.2 in
    let theta = step-of (row (codes "theta") (integer_in 0 4294967295) (default 100) t) _ job losses.2 in
    let rounds = step-of (row (codes "rounds") (integer_in 1 10000) (default 1000) t) _ job theta.2 in
    let undirected = step-of (row (codes "undirected") boolean_value (default false) t) _ job rounds.2 in
    let name = step-of (row (codes "program") program_name required t) _ job undirected.2 in
    let source = step-of (row (codes "source") (integer_in 0 4294967295) (required_if (needs_source name.0) 0) t) _ job name.2 in
    let k = step-of (row (codes "k") (integer_in 0 4294967295) (required_if (needs_k name.0) 0) t) _ job source.2 in
    let seeds = step-of (row (codes "seeds") (integers_in 64 4294967295) (required_if (needs_seeds name.0) []) t) _ job k.2 in
    let is = read-same _ job seeds.2 in
    let placed = under-within 1 64 (codes "places") required (get_member (codes "places") t) tt places.0 places.1 in
    let spare = under-within 0 64 (codes "spares") (default 0) (get_member (codes "spares") t) (lit≤ tt, lit≤ tt) spares.0 spares.1 in
    let lost = under-within 0 7 (codes "losses") (default 1) (get_member (codes "losses") t) (lit≤ tt, lit≤ tt) losses.0 losses.1 in
    let high = under-within 0 4294967295 (codes "theta") (default 100) (get_member (codes "theta") t) (lit≤ tt, lit≤ tt) theta.0 theta.1 in
    let round = under-within 1 10000 (codes "rounds") (default 1000) (get_member (codes "rounds") t) (lit≤ tt, lit≤ tt) rounds.0 rounds.1 in
    subst IsInRanges is (record {
      some_place = placed.0;
      few_places = placed.1;
      spares = spare.1;
      losses = lost.1;
      theta = below-next theta.0 high.1;
      some_round = round.0;
      few_rounds = round.1;
    })

document-in_ranges : (o : Option Members) (job : JobValues) → job_of_document o ≡ Ok job → IsInRanges job
document-in_ranges None job e = absurd (cc)
document-in_ranges (Some t) job e = table-in_ranges t job e

-- a job that is accepted is within them
pub job-in_ranges : (job : List ℕ) (values : JobValues) → job_of job ≡ Ok values → IsSetting (setting_in values)
job-in_ranges job values accepted = document-in_ranges (document_of job) values accepted

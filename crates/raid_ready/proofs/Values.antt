-- In every run a value makes one answer more, and no more than a program may read.
use Rattle.std.proofs.Common.{◌≡◌, ℕ, ℤ, zero, suc, ◌+◌, List, [], ◌∷◌, ◌++◌, length, Option, Some, arith, sym, subst, ap, ◌∙◌, length-append}
use Rattle.std.specs.Prelude.{slice_get}
use Rattle.std.specs.List.{AllByRecursion}
use Rattle.raid_base.specs.declared.names.Item.{Item}
use Rattle.raid_base.specs.declared.names.Site.{Site}
use Rattle.raid_base.specs.Names.{is_txn}
use Rattle.raid_program.specs.declared.program.Want.TheVariants as wants
use Rattle.raid_program.specs.Run.{outcome_of, given, put}
use Rattle.raid_program.proofs.Asked.{end_told}
use Rattle.raid_workload.specs.declared.workload.Workload.{Workload}
use Rattle.raid_workload.specs.Parts.{program}
use Rattle.raid_message.specs.declared.letter.Pick.{Pick}
use Rattle.raid_steps.specs.State.{asking, Running, SiteState}
use Rattle.raid_steps.specs.Programs.{running_of}
use Rattle.raid_steps.specs.World.{run}
use Rattle.raid_moves.proofs.Places.{all_found}
use Rattle.raid_stands.specs.Stands.{StandsIn, Stands, AreStanding}
use Rattle.raid_stands.proofs.Gives.{gives_one, put_last}
use Rattle.raid_stands.proofs.Runs.{runs_stand}
use Rattle.raid_ends.specs.Ready.{Gives}
use Rattle.raid_ends.proofs.Asking.{few_reads}

at_all : (P : SiteState → Type 0) (xs : List SiteState) (k : ℕ) (x : SiteState) → AllByRecursion P xs → slice_get xs k ≡ Some x → P x
at_all P [] k x a q = absurd (cc q)
at_all P (y ∷ ys) zero x a q = subst P (let e : y ≡ x = cc q in e) a.0
at_all P (y ∷ ys) (suc k) x a q = at_all P ys k x a.1 q

-- a program that stands where its answers lead, and asks for the item
gives : (w : Workload) (here : Site) (r : Running) (i : ℕ) (x : Item) (q : Option Site) (v : ℤ) → Stands w here r → r.phase ≡ asking i x q → Gives w r x v
gives w here r i x q v stands e = record {
  more = ap length last ∙ longer;
  room = (let few = few_reads w r.txn (given r.answers) x wish in let same = ap length stands.reads in omega (arith, few, same));
  few = λ y end. (let few = few_reads w r.txn (given (put r.answers x v)) y end in let same = ap length reads in omega (arith, few, same));
}
  where
    wish : (outcome_of (program w r.txn) (given r.answers)).end ≡ wants.Read x
    wish = (subst (StandsIn w here r.txn r.answers r.asks) e stands.phase).0

    last : put r.answers x v ≡ r.answers ++ (x, v) ∷ []
    last = put_last r.answers x v (end_told (program w r.txn) (given r.answers) x wish)

    longer : length (r.answers ++ (x, v) ∷ []) ≡ length r.answers + 1
    longer = length-append r.answers ((x, v) ∷ [])

    reads : (outcome_of (program w r.txn) (given (put r.answers x v))).reads ≡ put r.answers x v
    reads = subst (λ ps. (outcome_of (program w r.txn) (given ps)).reads ≡ ps) (sym last) (gives_one (program w r.txn) r.answers x v wish stands.reads)

pub run_gives : (w : Workload) (schedule : List Pick) (k : ℕ) (s : SiteState) → slice_get (run w schedule).servers.sites k ≡ Some s → (r : Running) (i : ℕ) (x : Item) (q : Option Site) (v : ℤ) → running_of s r.txn ≡ Some r → r.phase ≡ asking i x q → Gives w r x v
run_gives w schedule k s at r i x q v found e =
    gives w s.site r i x q v (all_found (Stands w s.site) (λ (p : Running). is_txn r.txn p.txn) s.running r (at_all (AreStanding w) (run w schedule).servers.sites k s (runs_stand w schedule) at) found) e

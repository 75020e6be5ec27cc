-- In every run, programs ask one thing at a time: they stand where their answers lead, which is all that the steps need to know of them.
use Rattle.std.proofs.Common.{◌≡◌, ℕ, zero, suc, List, [], ◌∷◌, Some, sym, subst}
use Rattle.std.specs.Prelude.{slice_get}
use Rattle.std.specs.List.{AllByRecursion}
use Rattle.raid_base.specs.Names.{is_txn}
use Rattle.raid_program.specs.declared.program.Want.TheVariants as wants
use Rattle.raid_program.specs.Run.{given}
use Rattle.raid_program.proofs.Asked.{end_told}
use Rattle.raid_workload.specs.declared.workload.Workload.{Workload}
use Rattle.raid_workload.specs.Parts.{program}
use Rattle.raid_message.specs.declared.letter.Pick.{Pick}
use Rattle.raid_steps.specs.State.{Running}
use Rattle.raid_steps.specs.World.{run}
use Rattle.raid_moves.proofs.Places.{all_found}
use Rattle.raid_made.specs.Made.{made_of}
use Rattle.raid_stands.specs.Stands.{StandsIn, Stands, AreStanding}
use Rattle.raid_stands.proofs.Gives.{gives_one, gives_none, put_last}
use Rattle.raid_stands.proofs.Runs.{runs_stand}
use Rattle.raid_layers.specs.Asks.{AskOneThing}
use Rattle.raid_layers.proofs.Runs.{Reads, Gives, runs_ask}

got : {X : Type 0} (P : X → Type 0) (xs : List X) (k : ℕ) (x : X) → AllByRecursion P xs → slice_get xs k ≡ Some x → P x
got P [] k x a q = absurd (cc q)
got P (y ∷ xs) zero x a q = (let same : y ≡ x = cc q in subst P same a.0)
got P (y ∷ xs) (suc k) x a q = got P xs k x a.1 q

module _ (w : Workload) where
  pub reads : Reads w
  reads t = gives_none (program w t)

  pub gives : (schedule : List Pick) → Gives w (run w schedule).servers
  gives schedule k state at r ask x q v f is =
      let stands = all_found (Stands w state.site) (λ (z : Running). is_txn r.txn z.txn) state.running r (got (AreStanding w) (run w schedule).servers.sites k state (runs_stand w schedule) at) f in
      let wish : (made_of w r.txn r.answers).end ≡ wants.Read x = (subst (StandsIn w state.site r.txn r.answers r.asks) is stands.phase).0 in
      subst (λ ps. (made_of w r.txn ps).reads ≡ ps) (sym (put_last r.answers x v (end_told (program w r.txn) (given r.answers) x wish))) (gives_one (program w r.txn) r.answers x v wish stands.reads)

  pub asks_one : (schedule : List Pick) → AskOneThing w (run w schedule)
  asks_one schedule = runs_ask w reads gives schedule

-- In every run a transaction that a site is told to be over has begun.
use Rattle.std.proofs.Common.{◌≡◌, ℕ, ◌+◌, Bool, true, false, ◌||◌, List, [], ◌∷◌, sym, subst, ap, refl}
use Rattle.std.specs.List.{AllByRecursion, list_any}
use Rattle.std.proofs.lemmas.Bool.{true≢false}
use Rattle.raid_base.specs.declared.names.Txn.{Txn}
use Rattle.raid_base.specs.declared.entry.Entry.{Entry}
use Rattle.raid_base.specs.declared.entry.Entry.TheVariants.{Commit, Abort}
use Rattle.raid_base.specs.declared.entry.Noted.{Noted}
use Rattle.raid_base.specs.Sites.{site}
use Rattle.raid_workload.specs.declared.workload.Workload.{Workload}
use Rattle.raid_rules.specs.Entries.{is_commit_of, is_abort_of}
use Rattle.raid_rules.specs.History.{noted, has_begun}
use Rattle.raid_rules.specs.Order.{is_of}
use Rattle.raid_rules.proofs.Push.{same_txn}
use Rattle.raid_message.specs.declared.letter.Message.{Message}
use Rattle.raid_message.specs.declared.letter.Message.TheVariants as letters
use Rattle.raid_message.specs.declared.letter.Letter.{Letter}
use Rattle.raid_message.specs.declared.letter.Pick.{Pick}
use Rattle.raid_steps.specs.World.{link, run}
use Rattle.raid_placed.proofs.Orderly.{placed_whole}
use Rattle.raid_sessions.proofs.Reached.{reached}
use Rattle.raid_letters.specs.Says.{NoteSays}
use Rattle.raid_letters.proofs.Runs.{runs_say}
use Rattle.raid_ready.specs.Told.{tells_over}

-- what passes one test passes another
any_of : (f g : Noted → Bool) → ((n : Noted) → f n ≡ true → g n ≡ true) → (p : List Noted) → list_any f p ≡ true → list_any g p ≡ true
any_of f g each [] q = absurd (true≢false (sym q))
any_of f g each (n ∷ p) q = go (f n) refl q (any_of f g each p)
  where
    later : (a b : Bool) → b ≡ true → (a || b) ≡ true
    later true b q = refl
    later false b q = q

    go : (b : Bool) → f n ≡ b → (b || list_any f p) ≡ true → (list_any f p ≡ true → list_any g p ≡ true) → (g n || list_any g p) ≡ true
    go true e q rest = ap (λ b. b || list_any g p) (each n e)
    go false e q rest = later (g n) (list_any g p) (rest q)

commit_of : (t : Txn) (e : Entry) → is_commit_of t e ≡ true → is_of t e ≡ true
commit_of t (Commit u request applied) q = q
commit_of t e q = absurd (true≢false (sym q))

abort_of : (t : Txn) (e : Entry) → is_abort_of t e ≡ true → is_of t e ≡ true
abort_of t (Abort u cause act) q = q
abort_of t e q = absurd (true≢false (sym q))

pub told_begun : (w : Workload) (schedule : List Pick) (k : ℕ) (letter : Letter) (rest : List Letter) → link (run w schedule).links (k + 2) 1 ≡ letter ∷ rest → (t : Txn) → tells_over t letter.message ≡ true → has_begun (noted (run w schedule).servers.sequencer.history) t ≡ true
told_begun w schedule k letter rest front t = go letter.message (subst (AllByRecursion (λ (l : Letter). NoteSays w p (site (k + 1)) l.to l.message)) front ((runs_say w schedule).notes k)).0
  where
    p : List Noted
    p = noted (run w schedule).servers.sequencer.history

    whole : (u : Txn) → list_any (λ n. is_of u n.entry) p ≡ true → has_begun p u ≡ true
    whole = placed_whole w (run w schedule).servers.sequencer.history (reached w schedule).placed

    go : (m : Message) → NoteSays w p (site (k + 1)) letter.to m → tells_over t m ≡ true → has_begun p t ≡ true
    go (letters.Done u) says q = subst (λ v. has_begun p v ≡ true) (same_txn u t q) (whole u (any_of (λ n. is_commit_of u n.entry) (λ n. is_of u n.entry) (λ n. commit_of u n.entry) p says.0))
    go (letters.Drop u again) says q = subst (λ v. has_begun p v ≡ true) (same_txn u t q) (whole u (any_of (λ n. is_abort_of u n.entry) (λ n. is_of u n.entry) (λ n. abort_of u n.entry) p says))
    go m says q = absurd (true≢false (sym q))

-- Which histories are legal: each entry is the one that was forced, or else one that the rules allow after the entries before it.
use Rattle.std.specs.Prelude.{◌≡◌, ℕ, ℤ, ◌+◌, ◌==◌, nat_lt, nat_le, Bool, true, false, not, ◌&&◌, ◌||◌, List, [], ◌∷◌, ◌++◌, length, fold, count_by, Option, Some, None, ⊤, if◌then◌else◌}
use Rattle.std.specs.Option.{option_map_or}
use Rattle.raid_base.specs.declared.names.Txn.{Txn}
use Rattle.raid_base.specs.declared.names.Item.{Item}
use Rattle.raid_base.specs.declared.names.Site.{Site}
use Rattle.raid_base.specs.declared.request.Request.{Request}
use Rattle.raid_base.specs.declared.entry.Entry.{Entry}
use Rattle.raid_base.specs.declared.entry.Entry.TheVariants.{Begin, Read, Wait, Commit, Abort, Ack, SwitchOn, SwitchEnd, Down, Up, Clear}
use Rattle.raid_base.specs.declared.entry.Act.{Act}
use Rattle.raid_base.specs.declared.entry.Act.TheVariants as acts
use Rattle.raid_base.specs.declared.entry.Cause.{Cause}
use Rattle.raid_base.specs.declared.entry.Cause.TheVariants as causes
use Rattle.raid_base.specs.declared.entry.Noted.{Noted}
use Rattle.raid_base.specs.Names.{is_txn, is_item, is_site, has_txn}
use Rattle.raid_program.specs.declared.program.Want.{Want}
use Rattle.raid_program.specs.declared.program.Want.TheVariants as wants
use Rattle.raid_workload.specs.declared.workload.Workload.{Workload}
use Rattle.raid_workload.specs.declared.workload.Event.{Event}
use Rattle.raid_workload.specs.Parts.{home, txns}
use Rattle.raid_rules.specs.Entries.{is_read, is_down, is_up as is_up_entry}
use Rattle.raid_rules.specs.History.{noted, is_running, is_waiting, has_begun, ends, version}
use Rattle.raid_rules.specs.Sessions.{owes, last_session}
use Rattle.raid_legal.specs.Seen.{outcome, is_up, is_locked, next_of, again, has_down_after}
use Rattle.raid_legal.specs.Answers.{answer_read, answer_commit}
use Rattle.raid_legal.specs.Forced.{forced}

-- the transaction may ask for something: it runs, and doesn't wait for an answer
abbrev pub is_free : List Noted → Txn → Bool
is_free p t = is_running p t && not (is_waiting p t)

-- the transaction is one of the workload's and may begin: its home is up, and it is the next of its home or a new attempt that is due
abbrev pub may_begin : Workload → List Noted → Txn → Bool
may_begin w p t = has_txn (txns w) t && not (has_begun p t) && is_up w p (home w t) && (option_map_or (is_txn t) (next_of w p (home w t)) false || again w p t)

-- the program stands at a read of the item
abbrev pub wants_item : Item → Want → Bool
wants_item x (wants.Read y) = is_item x y
wants_item x other = false

-- the transaction's last Read, if it has read
abbrev pub last_read : List Noted → Txn → Option Noted
last_read p t = fold (λ last n. if is_read (λ u x s. is_txn t u) n.entry then Some n else last) None p

-- the transaction's last Read is of the item, and the site that was to serve it has gone down since, so the value may not have come
abbrev pub is_lost : List Noted → Txn → Item → Bool
is_lost p t x = option_map_or (λ n. is_read (λ u y s. is_item x y && has_down_after p n.at s) n.entry) (last_read p t) false

-- the transaction may ask for the item: its program wants it, or the value that was granted may be lost
abbrev pub is_asked : Workload → List Noted → Txn → Item → Bool
is_asked w p t x = wants_item x (outcome w p t).end || is_lost p t x

-- the request is what the transaction's program makes of what it has seen: it is done, with these reads and writes; the vector is any with
-- one session per site
pub record Makes (w : Workload) (p : List Noted) (t : Txn) (request : Request) : Type 0 where
  pub done : (outcome w p t).end ≡ wants.Done
  pub reads : (outcome w p t).reads ≡ request.reads
  pub writes : (outcome w p t).writes ≡ request.writes
  pub sites : length request.under ≡ w.sites

-- the program ends this way on what the transaction has seen, having read these
pub record EndsBy (w : Workload) (p : List Noted) (t : Txn) (end : Want) (reads : List (Item × ℤ)) : Type 0 where
  pub ended : (outcome w p t).end ≡ end
  pub read : (outcome w p t).reads ≡ reads

-- the program itself ends in the abort with this cause: a stop of its own, or an overflow
abbrev pub EndsSo : Workload → List Noted → Txn → Cause → List (Item × ℤ) → Type 0
EndsSo w p t causes.Own reads = EndsBy w p t wants.Own reads
EndsSo w p t causes.Overflow reads = EndsBy w p t wants.Overflow reads
EndsSo w p t other reads = ⊥

-- the entry is the answer to a read that the transaction may ask for
abbrev pub AnswersRead : Workload → List Noted → Txn → Item → Entry → Type 0
AnswersRead w p t x e = (is_free p t ≡ true) × (answer_read w p t x ≡ e) × (is_asked w p t x ≡ true)

-- the entry is the answer to the commit request that the transaction's program makes
abbrev pub AnswersCommit : Workload → List Noted → Txn → Request → Entry → Type 0
AnswersCommit w p t request e = (is_free p t ≡ true) × (answer_commit w p t request ≡ Some e) × Makes w p t request

-- an abort that no switch and no stop forces: it answers what its act says was asked
abbrev pub Aborts : Workload → List Noted → Txn → Cause → Act → Type 0
Aborts w p t cause acts.Nothing = ⊥
Aborts w p t cause (acts.Ended reads) = (is_free p t ≡ true) × EndsSo w p t cause reads
Aborts w p t cause (acts.Read x) = AnswersRead w p t x (Abort t cause (acts.Read x))
Aborts w p t cause (acts.Commit request) = AnswersCommit w p t request (Abort t cause (acts.Commit request))

-- how many of the workload's stops of the site, or else of its returns, have had their trigger
abbrev pub due : Workload → List Noted → Bool → Site → ℕ
due w p stop s = count_by (λ (e : Event). is_site s e.site && (if e.stop then stop else not stop) && nat_le e.trigger (ends p)) w.events

-- how often the site has gone down
abbrev pub downs : List Noted → Site → ℕ
downs p s = count_by (λ n. is_down (is_site s) n.entry) p

-- how often the site has come up again
abbrev pub ups : List Noted → Site → ℕ
ups p s = count_by (λ n. is_up_entry (is_site s) n.entry) p

-- the entry may come where none is forced: one rule for each sort of entry
abbrev pub Free : Workload → List Noted → Entry → Type 0
Free w p (Begin t s) = (home w t ≡ s) × (may_begin w p t ≡ true)
Free w p (Read t x s) = AnswersRead w p t x (Read t x s)
Free w p (Wait t request) = AnswersCommit w p t request (Wait t request)
Free w p (Commit t request applied) = AnswersCommit w p t request (Commit t request applied)
Free w p (Abort t cause act) = Aborts w p t cause act
Free w p (Ack t s) = owes p s t ≡ true
Free w p (SwitchOn k kind method) = ⊥
Free w p (SwitchEnd k) = ⊥
Free w p (Down s) = (is_up w p s && nat_lt (downs p s) (due w p true s)) ≡ true
Free w p (Up s session) = (not (is_up w p s) && session == last_session p s + 1 && nat_lt (ups p s) (due w p false s)) ≡ true
Free w p (Clear s x v) = (is_up w p s && is_locked w p s x && v == version p x) ≡ true

-- the entry is the forced one, where one is forced, and else one that may come
abbrev pub Comes : Workload → List Noted → Entry → Option Entry → Type 0
Comes w p e (Some must) = e ≡ must
Comes w p e None = Free w p e

-- the entry may come next after the prefix
abbrev pub Allowed : Workload → List Noted → Entry → Type 0
Allowed w p e = Comes w p e (forced w p)

-- the relation holds between each entry of the list and those before it, the ones that stood before the list included
abbrev pub EachSeeing : (List Noted → Noted → Type 0) → List Noted → List Noted → Type 0
EachSeeing R before [] = ⊤
EachSeeing R before (n ∷ ns) = R before n × EachSeeing R (before ++ n ∷ []) ns

-- the history is legal: each of its entries was allowed after those before it
abbrev pub Legal : Workload → List Entry → Type 0
Legal w h = EachSeeing (λ p n. Allowed w p n.entry) [] (noted h)

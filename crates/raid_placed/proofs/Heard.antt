-- Whatever letter the sequencer hears, its history stays placed, and nothing is forced after it.
use Rattle.std.proofs.Common.{◌≡◌, ℕ, zero, suc, ◌+◌, ◌-◌, ◌||◌, ◌&&◌, ◌==◌, nat_lt, nat_le, Bool, true, false, List, [], ◌∷◌, if◌then◌else◌, Option, Some, None, arith, sym, ◌∙◌, ap, subst, refl}
use Rattle.std.specs.Prelude.{slice_index, slice_set}
use Rattle.std.proofs.lemmas.Bool.{and_parts, eqb-true}
use Rattle.std.proofs.lemmas.Grind.{common_steps}
use Rattle.raid_base.specs.declared.names.Txn.{Txn}
use Rattle.raid_base.specs.declared.names.Item.{Item}
use Rattle.raid_base.specs.declared.names.Site.{Site}
use Rattle.raid_base.specs.declared.request.Request.{Request}
use Rattle.raid_base.specs.declared.entry.Entry.{Entry}
use Rattle.raid_base.specs.declared.entry.Entry.TheVariants.{Begin, Wait, Commit, Abort, Ack, SwitchOn, SwitchEnd, Down, Up, Clear}
use Rattle.raid_base.specs.declared.entry.Act.TheVariants as acts
use Rattle.raid_base.specs.declared.entry.Cause.{Cause}
use Rattle.raid_base.specs.declared.entry.Cause.TheVariants as causes
use Rattle.raid_base.specs.declared.entry.Noted.{Noted}
use Rattle.raid_base.specs.declared.verdict.Verdict.{Verdict}
use Rattle.raid_base.specs.declared.verdict.Verdict.TheVariants as verdicts
use Rattle.raid_base.specs.Sites.{session, site}
use Rattle.raid_workload.specs.declared.workload.Workload.{Workload}
use Rattle.raid_workload.specs.Parts.{home}
use Rattle.raid_rules.specs.History.{noted, next, stamp, is_waiting, version}
use Rattle.raid_rules.specs.Sessions.{source_for, owes, turn_vector, is_site_up}
use Rattle.raid_rules.specs.Verdicts.{reading, writing}
use Rattle.raid_rules.proofs.Push.{noted_push, vector_push}
use Rattle.raid_legal.specs.Seen.{vector, is_up, is_locked, sources}
use Rattle.raid_legal.specs.InForce.{verdict}
use Rattle.raid_legal.specs.Answers.{served, answer_read, answer_commit, answered, decided, closes_waits, site_refusal}
use Rattle.raid_legal.specs.Forced.{forced}
use Rattle.raid_legal.specs.Legal.{is_free, may_begin}
use Rattle.raid_legal.proofs.Left.{Compels, forced_compels}
use Rattle.raid_message.specs.declared.letter.Message.{Message}
use Rattle.raid_message.specs.declared.letter.Message.TheVariants as letters
use Rattle.raid_message.specs.declared.letter.Letter.{Letter}
use Rattle.raid_serial.proofs.Facts.{some_is, none_is, if_some}
use Rattle.raid_steps.specs.State.{Turn, Sequencer, opened}
use Rattle.raid_steps.specs.Fits.{is_to_sequencer, knows_site}
use Rattle.raid_steps.specs.Sequencer.{so_far, place, place_if, settle, Settles, quiet, more, announced, announce, down_row, leave, leave_again, hello_row, free_row, site_row, finish, hear_down, is_hello, hear_of_site, hear_sequencer}
use Rattle.raid_placed.specs.Placed.{Sent, Goes, Placed}
use Rattle.raid_placed.proofs.Settled.{place_placed, settle_placed, settle_settles, settle_quiet}

-- the history is placed, and nothing is forced after it
abbrev pub Fine : Workload → Turn Sequencer → Type 0
Fine w turn = Placed w turn.state.history × (forced w (so_far turn) ≡ None)

-- the answers are what may be placed
served_sent : (w : Workload) (p : List Noted) (t : Txn) (x : Item) (o : Option Site) (v : Verdict) → is_free p t ≡ true → answer_read w p t x ≡ served t x o v → Sent w p (served t x o v)
served_sent w p t x None v free q = (free, q)
served_sent w p t x (Some s) (verdicts.Reject why) free q = (free, q)
served_sent w p t x (Some s) verdicts.Wait free q = (free, q)
served_sent w p t x (Some s) verdicts.Grant free q = (free, q)

pub read_sent : (w : Workload) (p : List Noted) (t : Txn) (x : Item) → is_free p t ≡ true → Sent w p (answer_read w p t x)
read_sent w p t x free = served_sent w p t x (source_for (sources w p x) (home w t)) (verdict w p (reading t (stamp p t) x)) free refl

waits_sent : (w : Workload) (p : List Noted) (t : Txn) (request : Request) (e : Entry) (a b : Bool) → is_free p t ≡ true → answer_commit w p t request ≡ Some e →
    (if a then None else if b then Some (Abort t causes.Deadlock (acts.Commit request)) else Some (Wait t request)) ≡ Some e → Sent w p e
waits_sent w p t request e true b free q r = absurd (none_is e r)
waits_sent w p t request e false true free q r = subst (Sent w p) (some_is _ e r) (free, q ∙ sym r)
waits_sent w p t request e false false free q r = subst (Sent w p) (some_is _ e r) (free, q ∙ sym r)

decided_sent : (w : Workload) (p : List Noted) (t : Txn) (request : Request) (e : Entry) (v : Verdict) → is_free p t ≡ true → answer_commit w p t request ≡ Some e → decided w p t request v ≡ Some e → Sent w p e
decided_sent w p t request e (verdicts.Reject why) free q r = subst (Sent w p) (some_is _ e r) (free, q ∙ sym r)
decided_sent w p t request e verdicts.Grant free q r = subst (Sent w p) (some_is _ e r) (free, q ∙ sym r)
decided_sent w p t request e verdicts.Wait free q r = waits_sent w p t request e (is_waiting p t) (closes_waits w p t request) free q r

answered_sent : (w : Workload) (p : List Noted) (t : Txn) (request : Request) (e : Entry) (o : Option Cause) → is_free p t ≡ true → answer_commit w p t request ≡ Some e → answered w p t request o ≡ Some e → Sent w p e
answered_sent w p t request e (Some why) free q r = subst (Sent w p) (some_is _ e r) (free, q ∙ sym r)
answered_sent w p t request e None free q r = decided_sent w p t request e (verdict w p (writing t (stamp p t) request.writes)) free q r

pub commit_sent : (w : Workload) (p : List Noted) (t : Txn) (request : Request) (e : Entry) → is_free p t ≡ true → answer_commit w p t request ≡ Some e → Sent w p e
commit_sent w p t request e free q = answered_sent w p t request e (site_refusal w p request) free q q

-- an entry that may be sent is placed where none is forced
pub sent_placed : (w : Workload) (ask : ℕ) (turn : Turn Sequencer) (e : Entry) → Fine w turn → Sent w (so_far turn) e → Placed w (place w ask turn e).state.history
sent_placed w ask turn e fine s = place_placed w ask turn e fine.0 (subst (Goes w (so_far turn) e) (sym fine.1) s)

pub place_if_placed : (w : Workload) (ask : ℕ) (turn : Turn Sequencer) (o : Option Entry) → Fine w turn → ((e : Entry) → o ≡ Some e → Sent w (so_far turn) e) → Placed w (place_if w ask turn o).state.history
place_if_placed w ask turn None fine s = fine.0
place_if_placed w ask turn (Some e) fine s = sent_placed w ask turn e fine (s e refl)

-- where a test lets it be
pub place_when : (w : Workload) (ask : ℕ) (turn : Turn Sequencer) (b : Bool) (e : Entry) → Fine w turn → (b ≡ true → Sent w (so_far turn) e) → Placed w (place_if w ask turn (if b then Some e else None)).state.history
place_when w ask turn b e fine s = place_if_placed w ask turn (if b then Some e else None) fine (λ x q. (let m = if_some b e x q in subst (Sent w (so_far turn)) m.1 (s m.0)))

pub free_placed : (w : Workload) (ask : ℕ) (turn : Turn Sequencer) (t : Txn) (o : Option Entry) → Fine w turn → (is_free (so_far turn) t ≡ true → (e : Entry) → o ≡ Some e → Sent w (so_far turn) e) → Placed w (free_row w ask turn t o).state.history
free_placed w ask turn t o fine s = step (is_free (so_far turn) t) refl
  where
    step : (b : Bool) → is_free (so_far turn) t ≡ b → Placed w (if b then place_if w ask turn o else turn).state.history
    step true q = place_if_placed w ask turn o fine (s q)
    step false q = fine.0

-- forced entries leave the sites as they are
compelled_still : (w : Workload) (p : List Noted) (e : Entry) (v : List ℕ) → Compels w p e → turn_vector v e ≡ v
compelled_still w p (Abort t cause act) v c = refl
compelled_still w p (Commit t request applied) v c = refl
compelled_still w p (SwitchOn k kind method) v c = refl
compelled_still w p (SwitchEnd k) v c = refl
compelled_still w p other v c = absurd c

forced_still : (w : Workload) (turn : Turn Sequencer) (e : Entry) (s : Site) → forced w (so_far turn) ≡ Some e → is_up w (so_far (place w 0 turn e)) s ≡ is_up w (so_far turn) s
forced_still w turn e s q =
    ap (λ p. is_up w p s) (noted_push turn.state.history e)
    ∙ ap (λ v. is_site_up v s) (vector_push w.sites (so_far turn) (next (so_far turn) e) ∙ compelled_still w (so_far turn) e (vector w (so_far turn)) (forced_compels w (so_far turn) e q))

pub settled_still : (w : Workload) (s : Site) (turn last : Turn Sequencer) → Settles w turn last → is_up w (so_far last) s ≡ is_up w (so_far turn) s
settled_still w s turn last (quiet q) = refl
settled_still w s turn last (more {e = e} q rest) = settled_still w s (place w 0 turn e) last rest ∙ forced_still w turn e s q

-- a site that goes down is not up
set_index : (v : List ℕ) (k : ℕ) → slice_index (slice_set v k 0) k ≡ 0
set_index [] k = grind (arith, common_steps)
set_index (x ∷ xs) zero = refl
set_index (x ∷ xs) (suc k) = set_index xs k

downed : (v : List ℕ) (s : Site) → is_site_up (turn_vector v (Down s)) s ≡ false
downed v s = ap (λ n. nat_lt 0 n) (set_index v (s.0 - 1))

pub down_not_up : (w : Workload) (turn : Turn Sequencer) (s : Site) → is_up w (so_far (place w 0 turn (Down s))) s ≡ false
down_not_up w turn s =
    ap (λ p. is_up w p s) (noted_push turn.state.history (Down s))
    ∙ ap (λ v. is_site_up v s) (vector_push w.sites (so_far turn) (next (so_far turn) (Down s)))
    ∙ downed (vector w (so_far turn)) s

-- the rows
pub leave_fine : (w : Workload) (turn : Turn Sequencer) (s : Site) → Fine w turn → Fine w (leave w turn s) × (is_up w (so_far (leave w turn s)) s ≡ false)
leave_fine w turn s fine = step (is_up w (so_far turn) s) refl
  where
    gone : Placed w (place w 0 turn (Down s)).state.history
    gone = sent_placed w 0 turn (Down s) fine tt

    step : (b : Bool) → is_up w (so_far turn) s ≡ b → Fine w (if b then settle w (place w 0 turn (Down s)) else turn) × (is_up w (so_far (if b then settle w (place w 0 turn (Down s)) else turn)) s ≡ false)
    step true q = ((settle_placed w (place w 0 turn (Down s)) gone, settle_quiet w (place w 0 turn (Down s)) gone), settled_still w s (place w 0 turn (Down s)) (settle w (place w 0 turn (Down s))) (settle_settles w (place w 0 turn (Down s)) gone) ∙ down_not_up w turn s)
    step false q = (fine, q)

pub again_placed : (w : Workload) (turn : Turn Sequencer) (s : Site) (n : ℕ) → Placed w turn.state.history → Placed w (leave_again w turn s n).state.history
again_placed w turn s n l = step (nat_le n (announced turn s))
  where
    step : (b : Bool) → Placed w (if b then place w 0 (settle w turn) (Down s) else turn).state.history
    step true = sent_placed w 0 (settle w turn) (Down s) (settle_placed w turn l, settle_quiet w turn l) tt
    step false = l

pub hello_placed : (w : Workload) (turn : Turn Sequencer) (s : Site) (n : ℕ) → Fine w turn → Placed w (hello_row w turn s n).state.history
hello_placed w turn s n fine =
    let left = leave_fine w turn s fine in
    again_placed w (place w 0 (leave w turn s) (Up s n)) s n (sent_placed w 0 (leave w turn s) (Up s n) left.0 left.1)

pub row_placed : (w : Workload) (turn : Turn Sequencer) (s : Site) (n : ℕ) (message : Message) → Fine w turn → Placed w (site_row w turn s n message).state.history
row_placed w turn s n letters.Hello fine = hello_placed w turn s n fine
row_placed w turn s n (letters.Begin t) fine = place_when w 0 turn (may_begin w (so_far turn) t) (Begin t (home w t)) fine (λ q. (refl, q))
row_placed w turn s n (letters.ReadAsk t ask x) fine = free_placed w ask turn t (Some (answer_read w (so_far turn) t x)) fine (λ free e q. subst (Sent w (so_far turn)) (some_is _ e q) (read_sent w (so_far turn) t x free))
row_placed w turn s n (letters.CommitAsk t request) fine = free_placed w 0 turn t (answer_commit w (so_far turn) t request) fine (λ free e q. commit_sent w (so_far turn) t request e free q)
row_placed w turn s n (letters.EndAsk t cause reads) fine = free_placed w 0 turn t (Some (Abort t cause (acts.Ended reads))) fine (λ free e q. subst (Sent w (so_far turn)) (some_is _ e q) free)
row_placed w turn s n (letters.Ack t) fine = place_when w 0 turn (owes (so_far turn) s t) (Ack t s) fine (λ q. q)
row_placed w turn s n (letters.CopyDone x v) fine = place_when w 0 turn (is_locked w (so_far turn) s x && v == version (so_far turn) x) (Clear s x v) fine (λ q. (let m = and_parts (is_locked w (so_far turn) s x) (v == version (so_far turn) x) q in (m.0, eqb-true v (version (so_far turn) x) m.1)))
row_placed w turn s n other fine = fine.0

pub down_placed : (w : Workload) (turn : Turn Sequencer) (s : Site) (n : ℕ) → Fine w turn → Placed w (down_row w turn s n).state.history
down_placed w turn s n fine = place_when w 0 (announce turn s n) (is_up w (so_far turn) s && session (vector w (so_far turn)) s == n) (Down s) fine (λ q. tt)

-- the whole step
pub finish_fine : (w : Workload) (state : Sequencer) (turn : Turn Sequencer) → Placed w turn.state.history → Fine w (finish w state turn)
finish_fine w state turn l = (settle_placed w turn l, settle_quiet w turn l)

down_fine : (w : Workload) (state : Sequencer) (message : Message) → Fine w (opened state) → Fine w (hear_down w state message)
down_fine w state (letters.Down s n) fine = step (knows_site w s)
  where
    step : (b : Bool) → Fine w (if b then finish w state (down_row w (opened state) s n) else opened state)
    step true = finish_fine w state (down_row w (opened state) s n) (down_placed w (opened state) s n fine)
    step false = fine
down_fine w state other fine = fine

site_fine : (w : Workload) (state : Sequencer) (s : Site) (letter : Letter) → Fine w (opened state) → Fine w (hear_of_site w state s letter)
site_fine w state s letter fine = step ((is_hello letter.message || letter.from == session (vector w (noted state.history)) s) && is_to_sequencer w letter.message)
  where
    step : (b : Bool) → Fine w (if b then finish w state (site_row w (opened state) s letter.from letter.message) else opened state)
    step true = finish_fine w state (site_row w (opened state) s letter.from letter.message) (row_placed w (opened state) s letter.from letter.message fine)
    step false = fine

pub hear_fine : (w : Workload) (state : Sequencer) (from : ℕ) (letter : Letter) → Placed w state.history → forced w (noted state.history) ≡ None →
    Placed w (hear_sequencer w state from letter).state.history × (forced w (so_far (hear_sequencer w state from letter)) ≡ None)
hear_fine w state zero letter l q = down_fine w state letter.message (l, q)
hear_fine w state (suc zero) letter l q = (l, q)
hear_fine w state (suc (suc k)) letter l q = site_fine w state (site (k + 1)) letter (l, q)

pub hear_placed : (w : Workload) (state : Sequencer) (from : ℕ) (letter : Letter) → Placed w state.history → forced w (noted state.history) ≡ None →
    Placed w (hear_sequencer w state from letter).state.history
hear_placed w state from letter l q = (hear_fine w state from letter l q).0

pub hear_quiet : (w : Workload) (state : Sequencer) (from : ℕ) (letter : Letter) → Placed w state.history → forced w (noted state.history) ≡ None →
    forced w (so_far (hear_sequencer w state from letter)) ≡ None
hear_quiet w state from letter l q = (hear_fine w state from letter l q).1

-- What is written is read again: the entries of a report.
use Rattle.std.proofs.Common.{◌≡◌, ℕ, ℤ, ◌<◌, ◌≤◌, ◌^◌, List, [], ◌∷◌, ◌++◌, codes, Some, refl, arith}
use Rattle.std.specs.Fmt.{decimal, signed_decimal}
use Rattle.raid_base.specs.declared.names.Txn.{Txn}
use Rattle.raid_base.specs.declared.names.Item.{Item}
use Rattle.raid_base.specs.declared.names.Site.{Site}
use Rattle.raid_base.specs.declared.verdict.Kind.{Kind}
use Rattle.raid_base.specs.declared.verdict.Method.{Method}
use Rattle.raid_base.specs.declared.request.Request.{Request}
use Rattle.raid_base.specs.declared.entry.Entry.{Entry}
use Rattle.raid_base.specs.declared.entry.Entry.TheVariants.{Begin, Read, Wait, Commit, Abort, Ack, SwitchOn, SwitchEnd, Down, Up, Clear}
use Rattle.raid_base.specs.declared.entry.Act.{Act}
use Rattle.raid_base.specs.declared.entry.Act.TheVariants as acts
use Rattle.raid_base.specs.declared.entry.Cause.{Cause}
use Rattle.raid_base.specs.declared.entry.Cause.TheVariants as causes
use Rattle.raid_workload.specs.declared.workload.Workload.{Workload}
use Rattle.raid_pieces.specs.Numbers.{IsValue}
use Rattle.raid_pieces.proofs.Written.{number_again, value_again}
use Rattle.raid_report.specs.Spelling.{Word, txn_word, site_word, name_of, pairs_word, vector_word, set_word, kind_word, method_word, request_words, act_words, cause_words, entry_words}
use Rattle.raid_report.specs.Known.{KnowsTxn, KnowsSite, KnowsItem, KnowsRequest, IsRefused, IsEnded, IsNothing, IsActOf, IsEntryOf}
use Rattle.raid_report.specs.Typed.{IsTypedRequest, IsTypedAct, IsTypedCause, IsTypedEntry}
use Rattle.raid_report.specs.Next.{word_at, end_at, number_at, value_at, txn_next, site_at, item_at, kind_at, method_at, request_at, request_of, begin_line, read_line, wait_line, commit_line, ended_at, nothing_at, read_at, commit_at, refused_of, refused_at, cause_of, plain_abort, ended_abort, home_abort, switch_abort, stale_abort, abort_of, abort_line, ack_line, switch_on_line, switch_end_line, down_line, up_line, clear_line, entry_of, entry_at}
use Rattle.raid_report.proofs.Bind.{keyword_again}
use Rattle.raid_report.proofs.ReadWords.{txn_again, site_again}
use Rattle.raid_report.proofs.Items.{item_again}
use Rattle.raid_report.proofs.Again.{pairs_again, vector_again, set_again, kind_again, method_again}

-- ---- what stands next

pub txn_next_again : (w : Workload) (t : Txn) (words : List Word) → KnowsTxn w t → txn_next w (txn_word w t ∷ words) ≡ Some (t, words)
unfolding txn_next word_at
txn_next_again w t words h = rw (txn_again w t h) refl

pub site_at_again : (w : Workload) (s : Site) (words : List Word) → KnowsSite w s → site_at w (site_word s ∷ words) ≡ Some (s, words)
unfolding site_at word_at
site_at_again w s words h = rw (site_again w s h) refl

pub item_at_again : (w : Workload) (x : Item) (words : List Word) → KnowsItem w x → item_at w (name_of w x ∷ words) ≡ Some (x, words)
unfolding item_at word_at
item_at_again w x words h = rw (item_again w x h) refl

pub number_at_again : (most n : ℕ) (words : List Word) → n ≤ most → n < 2 ^ 32 → number_at most (decimal n ∷ words) ≡ Some (n, words)
unfolding number_at word_at
number_at_again most n words le short = rw (number_again most n le short) refl

pub value_at_again : (z : ℤ) (words : List Word) → IsValue z → value_at (signed_decimal z ∷ words) ≡ Some (z, words)
unfolding value_at word_at
value_at_again z words h = rw (value_again z h) refl

kind_at_again : (k : Kind) (words : List Word) → kind_at (kind_word k ∷ words) ≡ Some (k, words)
unfolding kind_at word_at
kind_at_again k words = rw (kind_again k) refl

method_at_again : (m : Method) (words : List Word) → method_at (method_word m ∷ words) ≡ Some (m, words)
unfolding method_at word_at
method_at_again m words = rw (method_again m) refl

request_at_again : (a b c : Word) (words : List Word) → request_at (codes "reads" ∷ a ∷ codes "writes" ∷ b ∷ codes "under" ∷ c ∷ words) ≡ Some (a, b, c, words)
unfolding request_at word_at
request_at_again a b c words =
    rw (keyword_again (codes "reads") (a ∷ codes "writes" ∷ b ∷ codes "under" ∷ c ∷ words)) (
    rw (keyword_again (codes "writes") (b ∷ codes "under" ∷ c ∷ words)) (
    rw (keyword_again (codes "under") (c ∷ words)) refl))

request_of_again : (w : Workload) (r : Request) → KnowsRequest w r → IsTypedRequest r → request_of w (pairs_word w r.reads) (pairs_word w r.writes) (vector_word r.under) ≡ Some r
unfolding request_of
request_of_again w r h t = rw (pairs_again w r.reads h.reads t.reads, pairs_again w r.writes h.writes t.writes, vector_again w r.under h.under t.under) refl

-- ---- acts

ended_again : (w : Workload) (a : Act) → IsEnded w a → IsTypedAct a → ended_at w (act_words w a) ≡ Some a
unfolding ended_at word_at end_at
ended_again w acts.Nothing h t = absurd h
ended_again w (acts.Ended reads) h t = rw (keyword_again (codes "reads") (pairs_word w reads ∷ [])) (rw (pairs_again w reads h t) refl)
ended_again w (acts.Read x) h t = absurd h
ended_again w (acts.Commit r) h t = absurd h

nothing_again : (w : Workload) (a : Act) → IsNothing a → nothing_at (act_words w a) ≡ Some a
unfolding nothing_at end_at
nothing_again w acts.Nothing h = refl
nothing_again w (acts.Ended reads) h = absurd h
nothing_again w (acts.Read x) h = absurd h
nothing_again w (acts.Commit r) h = absurd h

refused_again : (w : Workload) (a : Act) → IsRefused w a → IsTypedAct a → refused_at w (act_words w a) ≡ Some a
unfolding refused_at refused_of word_at read_at commit_at end_at
refused_again w acts.Nothing h t = absurd h
refused_again w (acts.Ended reads) h t = absurd h
refused_again w (acts.Read x) h t = rw (item_at_again w x [] h) refl
refused_again w (acts.Commit r) h t = rw (request_at_again (pairs_word w r.reads) (pairs_word w r.writes) (vector_word r.under) [], request_of_again w r h t) refl

-- ---- aborts

abort_again : (w : Workload) (t : Txn) (c : Cause) (a : Act) → KnowsTxn w t → IsActOf w c a → IsTypedCause c → IsTypedAct a → abort_line w (txn_word w t ∷ (cause_words c ++ act_words w a)) ≡ Some (Abort t c a)
unfolding abort_line abort_of word_at ended_abort plain_abort cause_of home_abort switch_abort stale_abort
abort_again w t causes.Own a k h ct at = rw (txn_next_again w t (codes "own" ∷ act_words w a) k) (rw (ended_again w a h at) refl)
abort_again w t causes.Overflow a k h ct at = rw (txn_next_again w t (codes "overflow" ∷ act_words w a) k) (rw (ended_again w a h at) refl)
abort_again w t causes.Late a k h ct at = rw (txn_next_again w t (codes "late" ∷ act_words w a) k) (rw (refused_again w a h at) refl)
abort_again w t causes.Invalid a k h ct at = rw (txn_next_again w t (codes "invalid" ∷ act_words w a) k) (rw (refused_again w a h at) refl)
abort_again w t causes.Cycle a k h ct at = rw (txn_next_again w t (codes "cycle" ∷ act_words w a) k) (rw (refused_again w a h at) refl)
abort_again w t causes.Deadlock a k h ct at = rw (txn_next_again w t (codes "deadlock" ∷ act_words w a) k) (rw (refused_again w a h at) refl)
abort_again w t (causes.SwitchOff n) a k h ct at =
    rw (txn_next_again w t (codes "switchoff" ∷ decimal n ∷ act_words w a) k) (rw (number_at_again 255 n (act_words w a) (omega arith) (omega arith)) (rw (nothing_again w a h) refl))
abort_again w t causes.HomeDown a k h ct at = rw (txn_next_again w t (codes "homedown" ∷ act_words w a) k) (rw (nothing_again w a h) refl)
abort_again w t (causes.Stale v) a k h ct at =
    rw (txn_next_again w t (codes "stale" ∷ vector_word v ∷ act_words w a) k) (rw (vector_again w v h.0 ct) (rw (refused_again w a h.1 at) refl))
abort_again w t causes.NoCopy a k h ct at = rw (txn_next_again w t (codes "nocopy" ∷ act_words w a) k) (rw (refused_again w a h at) refl)

-- ---- entries

pub entry_again : (w : Workload) (e : Entry) → IsEntryOf w e → IsTypedEntry e → entry_at w (entry_words w e) ≡ Some e
unfolding entry_at entry_of word_at end_at begin_line read_line wait_line commit_line ack_line switch_on_line switch_end_line down_line up_line clear_line
entry_again w (Begin t s) h y =
    rw (txn_next_again w t (codes "at" ∷ site_word s ∷ []) h.0) (rw (keyword_again (codes "at") (site_word s ∷ [])) (rw (site_at_again w s [] h.1) refl))
entry_again w (Read t x s) h y =
    rw (txn_next_again w t (name_of w x ∷ codes "at" ∷ site_word s ∷ []) h.0) (
    rw (item_at_again w x (codes "at" ∷ site_word s ∷ []) h.1) (
    rw (keyword_again (codes "at") (site_word s ∷ [])) (rw (site_at_again w s [] h.2) refl)))
entry_again w (Wait t r) h y =
    rw (txn_next_again w t (request_words w r) h.0) (
    rw (request_at_again (pairs_word w r.reads) (pairs_word w r.writes) (vector_word r.under) []) (rw (request_of_again w r h.1 y) refl))
entry_again w (Commit t r applied) h y =
    rw (txn_next_again w t (request_words w r ++ (codes "applied" ∷ set_word applied ∷ [])) h.0) (
    rw (request_at_again (pairs_word w r.reads) (pairs_word w r.writes) (vector_word r.under) (codes "applied" ∷ set_word applied ∷ [])) (
    rw (keyword_again (codes "applied") (set_word applied ∷ [])) (
    rw (request_of_again w r h.1 y.0) (rw (set_again w applied h.2 y.1) refl))))
entry_again w (Abort t cause act) h y = abort_again w t cause act h.0 h.1 y.0 y.1
entry_again w (Ack t s) h y = rw (txn_next_again w t (site_word s ∷ []) h.0) (rw (site_at_again w s [] h.1) refl)
entry_again w (SwitchOn k kind method) h y =
    rw (number_at_again 255 k (kind_word kind ∷ method_word method ∷ []) (omega arith) (omega arith)) (
    rw (kind_at_again kind (method_word method ∷ [])) (rw (method_at_again method []) refl))
entry_again w (SwitchEnd k) h y = rw (number_at_again 255 k [] (omega arith) (omega arith)) refl
entry_again w (Down s) h y = rw (site_at_again w s [] h) refl
entry_again w (Up s session) h y =
    rw (site_at_again w s (codes "session" ∷ decimal session ∷ []) h) (
    rw (keyword_again (codes "session") (decimal session ∷ [])) (rw (number_at_again 4294967295 session [] (omega arith) y) refl))
entry_again w (Clear s x version) h y =
    rw (site_at_again w s (name_of w x ∷ codes "at" ∷ decimal version ∷ []) h.0) (
    rw (item_at_again w x (codes "at" ∷ decimal version ∷ []) h.1) (
    rw (keyword_again (codes "at") (decimal version ∷ [])) (rw (number_at_again 4294967295 version [] (omega arith) y) refl)))

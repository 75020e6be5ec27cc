-- An entry that was read is written as the line that it was read from.
use Rattle.std.proofs.Common.{◌≡◌, ℕ, ℤ, ◌≤◌, Bool, true, false, cond, List, [], ◌∷◌, ◌++◌, codes, Option, Some, None, refl, sym, ap, subst, ◌∙◌, arith}
use Rattle.std.specs.Prelude.{bytes_eq}
use Rattle.std.specs.Fmt.{decimal, signed_decimal}
use Rattle.raid_base.specs.declared.names.Txn.{Txn}
use Rattle.raid_base.specs.declared.names.Item.{Item}
use Rattle.raid_base.specs.declared.names.Site.{Site}
use Rattle.raid_base.specs.declared.verdict.Kind.{Kind}
use Rattle.raid_base.specs.declared.verdict.Kind.TheVariants as kinds
use Rattle.raid_base.specs.declared.verdict.Method.{Method}
use Rattle.raid_base.specs.declared.verdict.Method.TheVariants as methods
use Rattle.raid_base.specs.declared.request.Request.{Request}
use Rattle.raid_base.specs.declared.entry.Entry.{Entry}
use Rattle.raid_base.specs.declared.entry.Entry.TheVariants.{Begin, Read, Wait, Commit, Ack, SwitchOn, SwitchEnd, Down, Up, Clear}
use Rattle.raid_workload.specs.declared.workload.Workload.{Workload}
use Rattle.raid_pieces.specs.Reading.{◌>>=◌}
use Rattle.raid_pieces.specs.Numbers.{number_of, value_of, IsValue}
use Rattle.raid_pieces.proofs.Written.{number_exact, value_exact, same_bytes}
use Rattle.raid_report.specs.Spelling.{Word, txn_word, site_word, name_of, pairs_word, vector_word, set_word, kind_word, method_word, request_words, entry_words}
use Rattle.raid_report.specs.Known.{KnowsTxn, KnowsSite, KnowsItem, KnowsRequest, IsEntryOf}
use Rattle.raid_report.specs.Typed.{IsTypedRequest, IsTypedEntry}
use Rattle.raid_report.specs.Forms.{txn_of, site_of, item_of, pairs_of, vector_of, set_of, kind_of, method_of}
use Rattle.raid_report.specs.Next.{word_at, keyword_at, end_at, number_at, value_at, txn_next, site_at, item_at, kind_at, method_at, request_at, request_of, begin_line, read_line, wait_line, commit_line, ack_line, switch_on_line, switch_end_line, down_line, up_line, clear_line}
use Rattle.raid_report.proofs.Bind.{bind_some, some_is, word_at_exact, keyword_exact, end_exact}
use Rattle.raid_report.proofs.ReadWords.{txn_exact, site_exact}
use Rattle.raid_report.proofs.Items.{item_exact}
use Rattle.raid_report.proofs.Pairs.{pairs_exact, vector_exact}
use Rattle.raid_report.proofs.Ascending.{set_exact}

-- a word, and what stands behind it
pub before : {a b : List Word} {w : Word} {ws : List Word} → a ≡ w ∷ b → b ≡ ws → a ≡ w ∷ ws
before {w} p q = p ∙ ap (λ (xs : List Word). w ∷ xs) q

-- ---- what stands next

next_exact : {X : Type 0} (of : Word → Option X) (spell : X → Word) (P : X → Type 0) → ((word : Word) (x : X) → of word ≡ Some x → (spell x ≡ word) × P x) →
    (words : List Word) (x : X × List Word) → (word_at words >>= λ word. of word.0 >>= λ y. Some (y, word.1)) ≡ Some x → (words ≡ spell x.0 ∷ x.1) × P x.0
next_exact of spell P exact words x e =
    let a = bind_some (word_at words) _ x e in
    let b = bind_some (of a.0.0) _ x a.2 in
    let is = some_is (b.0, a.0.1) x b.2 in
    let q = exact a.0.0 b.0 b.1 in
    subst (λ y. (words ≡ spell y.0 ∷ y.1) × P y.0) is (word_at_exact words a.0 a.1 ∙ ap (λ (w : Word). w ∷ a.0.1) (sym q.0), q.1)

pub txn_next_exact : (w : Workload) (words : List Word) (x : Txn × List Word) → txn_next w words ≡ Some x → (words ≡ txn_word w x.0 ∷ x.1) × KnowsTxn w x.0
unfolding txn_next
txn_next_exact w words x e = next_exact (txn_of w) (txn_word w) (KnowsTxn w) (λ word t h. let q = txn_exact w word t h in (q.written, q.known)) words x e

pub site_at_exact : (w : Workload) (words : List Word) (x : Site × List Word) → site_at w words ≡ Some x → (words ≡ site_word x.0 ∷ x.1) × KnowsSite w x.0
unfolding site_at
site_at_exact w words x e = next_exact (site_of w) site_word (KnowsSite w) (λ word s h. let q = site_exact w word s h in (q.written, q.known)) words x e

pub item_at_exact : (w : Workload) (words : List Word) (x : Item × List Word) → item_at w words ≡ Some x → (words ≡ name_of w x.0 ∷ x.1) × KnowsItem w x.0
unfolding item_at
item_at_exact w words x e = next_exact (item_of w) (name_of w) (KnowsItem w) (λ word y h. let q = item_exact w word y h in (q.written, q.known)) words x e

pub number_at_exact : (most : ℕ) (words : List Word) (x : ℕ × List Word) → number_at most words ≡ Some x → (words ≡ decimal x.0 ∷ x.1) × (x.0 ≤ most)
unfolding number_at
number_at_exact most words x e = next_exact (number_of most) decimal (λ n. n ≤ most) (number_exact most) words x e

pub value_at_exact : (words : List Word) (x : ℤ × List Word) → value_at words ≡ Some x → (words ≡ signed_decimal x.0 ∷ x.1) × IsValue x.0
unfolding value_at
value_at_exact words x e = next_exact value_of signed_decimal IsValue value_exact words x e

-- one of several words
pub choose : {X : Type 0} (b : Bool) (x y : X) (r : Option X) (P : X → Type 0) → cond b (Some x) r ≡ Some y → (b ≡ true → P x) → (r ≡ Some y → P y) → P y
choose true x y r P e here there = subst P (some_is x y e) (here refl)
choose false x y r P e here there = there e

pub none_left : {X : Type 0} (y : X) (P : X → Type 0) → (let o : Option X = None in o) ≡ Some y → P y
none_left y P e = absurd cc

kind_exact : (word : Word) (k : Kind) → kind_of word ≡ Some k → (kind_word k ≡ word) × Unit {0}
unfolding kind_of
kind_exact word k e =
    choose (bytes_eq word (codes "lock")) kinds.Lock k _ (λ j. (kind_word j ≡ word) × Unit {0}) e (λ h. (sym (same_bytes word (codes "lock") h), tt)) (λ e.
    choose (bytes_eq word (codes "stamp")) kinds.Stamp k _ (λ j. (kind_word j ≡ word) × Unit {0}) e (λ h. (sym (same_bytes word (codes "stamp") h), tt)) (λ e.
    choose (bytes_eq word (codes "valid")) kinds.Valid k _ (λ j. (kind_word j ≡ word) × Unit {0}) e (λ h. (sym (same_bytes word (codes "valid") h), tt)) (λ e.
    choose (bytes_eq word (codes "graph")) kinds.Graph k _ (λ j. (kind_word j ≡ word) × Unit {0}) e (λ h. (sym (same_bytes word (codes "graph") h), tt)) (λ e.
    none_left k (λ j. (kind_word j ≡ word) × Unit {0}) e))))

method_exact : (word : Word) (m : Method) → method_of word ≡ Some m → (method_word m ≡ word) × Unit {0}
unfolding method_of
method_exact word m e =
    choose (bytes_eq word (codes "generic")) methods.Generic m _ (λ j. (method_word j ≡ word) × Unit {0}) e (λ h. (sym (same_bytes word (codes "generic") h), tt)) (λ e.
    choose (bytes_eq word (codes "convert")) methods.Convert m _ (λ j. (method_word j ≡ word) × Unit {0}) e (λ h. (sym (same_bytes word (codes "convert") h), tt)) (λ e.
    choose (bytes_eq word (codes "suffix")) methods.Suffix m _ (λ j. (method_word j ≡ word) × Unit {0}) e (λ h. (sym (same_bytes word (codes "suffix") h), tt)) (λ e.
    none_left m (λ j. (method_word j ≡ word) × Unit {0}) e)))

kind_at_exact : (words : List Word) (x : Kind × List Word) → kind_at words ≡ Some x → (words ≡ kind_word x.0 ∷ x.1) × Unit {0}
unfolding kind_at
kind_at_exact words x e = next_exact kind_of kind_word (λ _. Unit {0}) kind_exact words x e

method_at_exact : (words : List Word) (x : Method × List Word) → method_at words ≡ Some x → (words ≡ method_word x.0 ∷ x.1) × Unit {0}
unfolding method_at
method_at_exact words x e = next_exact method_of method_word (λ _. Unit {0}) method_exact words x e

pub request_exact : (words : List Word) (x : Word × Word × Word × List Word) → request_at words ≡ Some x → words ≡ codes "reads" ∷ x.0 ∷ codes "writes" ∷ x.1 ∷ codes "under" ∷ x.2 ∷ x.3
unfolding request_at
request_exact words x e =
    let a = bind_some (keyword_at (codes "reads") words) _ x e in
    let r = bind_some (word_at a.0) _ x a.2 in
    let b = bind_some (keyword_at (codes "writes") r.0.1) _ x r.2 in
    let s = bind_some (word_at b.0) _ x b.2 in
    let c = bind_some (keyword_at (codes "under") s.0.1) _ x s.2 in
    let u = bind_some (word_at c.0) _ x c.2 in
    let is = some_is (r.0.0, s.0.0, u.0.0, u.0.1) x u.2 in
    let made : words ≡ codes "reads" ∷ r.0.0 ∷ codes "writes" ∷ s.0.0 ∷ codes "under" ∷ u.0.0 ∷ u.0.1 =
    before (keyword_exact _ words a.0 a.1) (before (word_at_exact a.0 r.0 r.1) (before (keyword_exact _ r.0.1 b.0 b.1) (before (word_at_exact b.0 s.0 s.1) (before (keyword_exact _ s.0.1 c.0 c.1) (word_at_exact c.0 u.0 u.1))))) in
    subst (λ (y : Word × Word × Word × List Word). words ≡ codes "reads" ∷ y.0 ∷ codes "writes" ∷ y.1 ∷ codes "under" ∷ y.2 ∷ y.3) is made

pub record IsRequestWords (w : Workload) (reads writes under : Word) (r : Request) : Type 0 where
  pub reads_written : pairs_word w r.reads ≡ reads
  pub writes_written : pairs_word w r.writes ≡ writes
  pub under_written : vector_word r.under ≡ under
  pub known : KnowsRequest w r
  pub typed : IsTypedRequest r

pub request_of_exact : (w : Workload) (reads writes under : Word) (r : Request) → request_of w reads writes under ≡ Some r → IsRequestWords w reads writes under r
unfolding request_of
request_of_exact w reads writes under r e =
    let a = bind_some (pairs_of w reads) _ r e in
    let b = bind_some (pairs_of w writes) _ r a.2 in
    let c = bind_some (vector_of w under) _ r b.2 in
    let x = pairs_exact w reads a.0 a.1 in
    let y = pairs_exact w writes b.0 b.1 in
    let z = vector_exact w under c.0 c.1 in
    let q : Request = record { reads = a.0; writes = b.0; under = c.0 } in
    let is = some_is q r c.2 in
    let made : IsRequestWords w reads writes under q = record {
      reads_written = x.written;
      writes_written = y.written;
      under_written = z.written;
      known = record { reads = x.known; writes = y.known; under = z.long };
      typed = record { reads = x.typed; writes = y.typed; under = z.typed };
    } in
    subst (IsRequestWords w reads writes under) is made

-- ---- entries

pub record IsSpelled (w : Workload) (head : Word) (words : List Word) (e : Entry) : Type 0 where
  pub written : entry_words w e ≡ head ∷ words
  pub known : IsEntryOf w e
  pub typed : IsTypedEntry e

pub behind : (head : Word) {a b : List Word} → a ≡ b → head ∷ b ≡ head ∷ a
behind head p = ap (λ (xs : List Word). head ∷ xs) (sym p)

pub begin_exact : (w : Workload) (words : List Word) (e : Entry) → begin_line w words ≡ Some e → IsSpelled w (codes "begin") words e
unfolding begin_line
begin_exact w words e h =
    let t = bind_some (txn_next w words) _ e h in
    let tx = txn_next_exact w words t.0 t.1 in
    let a = bind_some (keyword_at (codes "at") t.0.1) _ e t.2 in
    let s = bind_some (site_at w a.0) _ e a.2 in
    let sx = site_at_exact w a.0 s.0 s.1 in
    let n = bind_some (end_at s.0.1) _ e s.2 in
    let made : IsSpelled w (codes "begin") words (Begin t.0.0 s.0.0) = record {
      written = behind (codes "begin") (before tx.0 (before (keyword_exact _ t.0.1 a.0 a.1) (before sx.0 (end_exact s.0.1 n.0 n.1))));
      known = (tx.1, sx.1);
      typed = tt;
    } in
    subst (IsSpelled w (codes "begin") words) (some_is (Begin t.0.0 s.0.0) e n.2) made

pub read_exact : (w : Workload) (words : List Word) (e : Entry) → read_line w words ≡ Some e → IsSpelled w (codes "read") words e
unfolding read_line
read_exact w words e h =
    let t = bind_some (txn_next w words) _ e h in
    let tx = txn_next_exact w words t.0 t.1 in
    let x = bind_some (item_at w t.0.1) _ e t.2 in
    let xx = item_at_exact w t.0.1 x.0 x.1 in
    let a = bind_some (keyword_at (codes "at") x.0.1) _ e x.2 in
    let s = bind_some (site_at w a.0) _ e a.2 in
    let sx = site_at_exact w a.0 s.0 s.1 in
    let n = bind_some (end_at s.0.1) _ e s.2 in
    let made : IsSpelled w (codes "read") words (Read t.0.0 x.0.0 s.0.0) = record {
      written = behind (codes "read") (before tx.0 (before xx.0 (before (keyword_exact _ x.0.1 a.0 a.1) (before sx.0 (end_exact s.0.1 n.0 n.1)))));
      known = (tx.1, xx.1, sx.1);
      typed = tt;
    } in
    subst (IsSpelled w (codes "read") words) (some_is (Read t.0.0 x.0.0 s.0.0) e n.2) made

-- the words of a request, written again
pub request_is : (w : Workload) (reads writes under : Word) (r : Request) → IsRequestWords w reads writes under r → request_words w r ≡ codes "reads" ∷ reads ∷ codes "writes" ∷ writes ∷ codes "under" ∷ under ∷ []
request_is w reads writes under r q = rw (q.reads_written, q.writes_written, q.under_written) refl

pub wait_exact : (w : Workload) (words : List Word) (e : Entry) → wait_line w words ≡ Some e → IsSpelled w (codes "wait") words e
unfolding wait_line
wait_exact w words e h =
    let t = bind_some (txn_next w words) _ e h in
    let tx = txn_next_exact w words t.0 t.1 in
    let p = bind_some (request_at t.0.1) _ e t.2 in
    let px = request_exact t.0.1 p.0 p.1 in
    let n = bind_some (end_at p.0.3) _ e p.2 in
    let r = bind_some (request_of w p.0.0 p.0.1 p.0.2) _ e n.2 in
    let q = request_of_exact w p.0.0 p.0.1 p.0.2 r.0 r.1 in
    let none = end_exact p.0.3 n.0 n.1 in
    let all : t.0.1 ≡ request_words w r.0 = px ∙ ap (λ (xs : List Word). codes "reads" ∷ p.0.0 ∷ codes "writes" ∷ p.0.1 ∷ codes "under" ∷ p.0.2 ∷ xs) none ∙ sym (request_is w p.0.0 p.0.1 p.0.2 r.0 q) in
    let made : IsSpelled w (codes "wait") words (Wait t.0.0 r.0) = record { written = behind (codes "wait") (before tx.0 all); known = (tx.1, q.known); typed = q.typed } in
    subst (IsSpelled w (codes "wait") words) (some_is (Wait t.0.0 r.0) e r.2) made

pub commit_exact : (w : Workload) (words : List Word) (e : Entry) → commit_line w words ≡ Some e → IsSpelled w (codes "commit") words e
unfolding commit_line
commit_exact w words e h =
    let t = bind_some (txn_next w words) _ e h in
    let tx = txn_next_exact w words t.0 t.1 in
    let p = bind_some (request_at t.0.1) _ e t.2 in
    let px = request_exact t.0.1 p.0 p.1 in
    let a = bind_some (keyword_at (codes "applied") p.0.3) _ e p.2 in
    let s = bind_some (word_at a.0) _ e a.2 in
    let n = bind_some (end_at s.0.1) _ e s.2 in
    let r = bind_some (request_of w p.0.0 p.0.1 p.0.2) _ e n.2 in
    let q = request_of_exact w p.0.0 p.0.1 p.0.2 r.0 r.1 in
    let v = bind_some (set_of w s.0.0) _ e r.2 in
    let vx = set_exact w s.0.0 v.0 v.1 in
    let none = end_exact s.0.1 n.0 n.1 in
    let tail : p.0.3 ≡ codes "applied" ∷ set_word v.0 ∷ [] =
    before (keyword_exact _ p.0.3 a.0 a.1) (word_at_exact a.0 s.0 s.1 ∙ ap (λ (xs : List Word). s.0.0 ∷ xs) none ∙ ap (λ (x : Word). x ∷ []) (sym vx.written)) in
    let all : t.0.1 ≡ request_words w r.0 ++ (codes "applied" ∷ set_word v.0 ∷ []) =
    px ∙ ap (λ (xs : List Word). codes "reads" ∷ p.0.0 ∷ codes "writes" ∷ p.0.1 ∷ codes "under" ∷ p.0.2 ∷ xs) tail
    ∙ ap (λ (xs : List Word). xs ++ (codes "applied" ∷ set_word v.0 ∷ [])) (sym (request_is w p.0.0 p.0.1 p.0.2 r.0 q)) in
    let made : IsSpelled w (codes "commit") words (Commit t.0.0 r.0 v.0) = record { written = behind (codes "commit") (before tx.0 all); known = (tx.1, q.known, vx.known); typed = (q.typed, vx.typed) } in
    subst (IsSpelled w (codes "commit") words) (some_is (Commit t.0.0 r.0 v.0) e v.2) made

pub ack_exact : (w : Workload) (words : List Word) (e : Entry) → ack_line w words ≡ Some e → IsSpelled w (codes "ack") words e
unfolding ack_line
ack_exact w words e h =
    let t = bind_some (txn_next w words) _ e h in
    let tx = txn_next_exact w words t.0 t.1 in
    let s = bind_some (site_at w t.0.1) _ e t.2 in
    let sx = site_at_exact w t.0.1 s.0 s.1 in
    let n = bind_some (end_at s.0.1) _ e s.2 in
    let made : IsSpelled w (codes "ack") words (Ack t.0.0 s.0.0) = record { written = behind (codes "ack") (before tx.0 (before sx.0 (end_exact s.0.1 n.0 n.1))); known = (tx.1, sx.1); typed = tt } in
    subst (IsSpelled w (codes "ack") words) (some_is (Ack t.0.0 s.0.0) e n.2) made

pub switch_on_exact : (w : Workload) (words : List Word) (e : Entry) → switch_on_line words ≡ Some e → IsSpelled w (codes "switchon") words e
unfolding switch_on_line
switch_on_exact w words e h =
    let k = bind_some (number_at 255 words) _ e h in
    let kx = number_at_exact 255 words k.0 k.1 in
    let j = bind_some (kind_at k.0.1) _ e k.2 in
    let jx = kind_at_exact k.0.1 j.0 j.1 in
    let m = bind_some (method_at j.0.1) _ e j.2 in
    let mx = method_at_exact j.0.1 m.0 m.1 in
    let n = bind_some (end_at m.0.1) _ e m.2 in
    let made : IsSpelled w (codes "switchon") words (SwitchOn k.0.0 j.0.0 m.0.0) = record {
      written = behind (codes "switchon") (before kx.0 (before jx.0 (before mx.0 (end_exact m.0.1 n.0 n.1))));
      known = tt;
      typed = omega (arith, kx.1);
    } in
    subst (IsSpelled w (codes "switchon") words) (some_is (SwitchOn k.0.0 j.0.0 m.0.0) e n.2) made

pub switch_end_exact : (w : Workload) (words : List Word) (e : Entry) → switch_end_line words ≡ Some e → IsSpelled w (codes "switchend") words e
unfolding switch_end_line
switch_end_exact w words e h =
    let k = bind_some (number_at 255 words) _ e h in
    let kx = number_at_exact 255 words k.0 k.1 in
    let n = bind_some (end_at k.0.1) _ e k.2 in
    let made : IsSpelled w (codes "switchend") words (SwitchEnd k.0.0) = record { written = behind (codes "switchend") (before kx.0 (end_exact k.0.1 n.0 n.1)); known = tt; typed = omega (arith, kx.1) } in
    subst (IsSpelled w (codes "switchend") words) (some_is (SwitchEnd k.0.0) e n.2) made

pub down_exact : (w : Workload) (words : List Word) (e : Entry) → down_line w words ≡ Some e → IsSpelled w (codes "down") words e
unfolding down_line
down_exact w words e h =
    let s = bind_some (site_at w words) _ e h in
    let sx = site_at_exact w words s.0 s.1 in
    let n = bind_some (end_at s.0.1) _ e s.2 in
    let made : IsSpelled w (codes "down") words (Down s.0.0) = record { written = behind (codes "down") (before sx.0 (end_exact s.0.1 n.0 n.1)); known = sx.1; typed = tt } in
    subst (IsSpelled w (codes "down") words) (some_is (Down s.0.0) e n.2) made

pub up_exact : (w : Workload) (words : List Word) (e : Entry) → up_line w words ≡ Some e → IsSpelled w (codes "up") words e
unfolding up_line
up_exact w words e h =
    let s = bind_some (site_at w words) _ e h in
    let sx = site_at_exact w words s.0 s.1 in
    let a = bind_some (keyword_at (codes "session") s.0.1) _ e s.2 in
    let m = bind_some (number_at 4294967295 a.0) _ e a.2 in
    let mx = number_at_exact 4294967295 a.0 m.0 m.1 in
    let n = bind_some (end_at m.0.1) _ e m.2 in
    let made : IsSpelled w (codes "up") words (Up s.0.0 m.0.0) = record {
      written = behind (codes "up") (before sx.0 (before (keyword_exact _ s.0.1 a.0 a.1) (before mx.0 (end_exact m.0.1 n.0 n.1))));
      known = sx.1;
      typed = omega (arith, mx.1);
    } in
    subst (IsSpelled w (codes "up") words) (some_is (Up s.0.0 m.0.0) e n.2) made

pub clear_exact : (w : Workload) (words : List Word) (e : Entry) → clear_line w words ≡ Some e → IsSpelled w (codes "clear") words e
unfolding clear_line
clear_exact w words e h =
    let s = bind_some (site_at w words) _ e h in
    let sx = site_at_exact w words s.0 s.1 in
    let x = bind_some (item_at w s.0.1) _ e s.2 in
    let xx = item_at_exact w s.0.1 x.0 x.1 in
    let a = bind_some (keyword_at (codes "at") x.0.1) _ e x.2 in
    let m = bind_some (number_at 4294967295 a.0) _ e a.2 in
    let mx = number_at_exact 4294967295 a.0 m.0 m.1 in
    let n = bind_some (end_at m.0.1) _ e m.2 in
    let made : IsSpelled w (codes "clear") words (Clear s.0.0 x.0.0 m.0.0) = record {
      written = behind (codes "clear") (before sx.0 (before xx.0 (before (keyword_exact _ x.0.1 a.0 a.1) (before mx.0 (end_exact m.0.1 n.0 n.1)))));
      known = (sx.1, xx.1);
      typed = omega (arith, mx.1);
    } in
    subst (IsSpelled w (codes "clear") words) (some_is (Clear s.0.0 x.0.0 m.0.0) e n.2) made

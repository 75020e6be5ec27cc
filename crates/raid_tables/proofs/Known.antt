-- What the tables know, in the words of the verdicts.
use Rattle.std.proofs.Common.{◌≡◌, ◌==◌, ℕ, Bool, true, false, not, ◌&&◌, ◌||◌, nat_lt, if◌then◌else◌, List, [], ◌∷◌, ◌++◌, map, filter, slice_index, arith, refl, ap, sym, subst, ◌∙◌}
use Rattle.std.specs.Prelude.{Result, Ok, Err, IfOk}
use Rattle.std.specs.List.{list_any, count_by}
use Rattle.std.proofs.lemmas.Grind.{common_steps}
use Rattle.std.proofs.lemmas.Map.Views.{any-filter_same}
use Rattle.std.proofs.lemmas.List.Elements.{filter-append}
use Rattle.raid_base.specs.declared.names.Txn.{Txn}
use Rattle.raid_base.specs.declared.names.Item.{Item}
use Rattle.raid_base.specs.declared.names.Site.{Site}
use Rattle.raid_base.specs.declared.request.Request.{Request}
use Rattle.raid_base.specs.declared.entry.Act.{Act}
use Rattle.raid_base.specs.declared.entry.Cause.{Cause}
use Rattle.raid_base.specs.declared.entry.Entry.{Entry}
use Rattle.raid_base.specs.declared.entry.Entry.TheVariants.{Begin, Read, Wait, Commit, Abort, Ack, SwitchOn, SwitchEnd, Down, Up, Clear}
use Rattle.raid_base.specs.declared.entry.Noted.{Noted}
use Rattle.raid_base.specs.Names.{is_txn, holds}
use Rattle.raid_rules.specs.Entries.{is_begin_of, is_read, is_commit, is_end_of, writes_of}
use Rattle.raid_rules.specs.History.{stamp, has_ended}
use Rattle.raid_rules.specs.Verdicts.{is_past, is_invalid}
use Rattle.raid_rules.specs.Views.{is_overwrite, is_backward}
use Rattle.raid_rules.proofs.Push.{number_of_push}
use Rattle.raid_control.specs.Carried.{is_start, carried}
use Rattle.raid_tables.specs.declared.running.Start.{Start}
use Rattle.raid_tables.specs.declared.running.Running.{Running}
use Rattle.raid_tables.specs.declared.readers.Readers.{Readers}
use Rattle.raid_tables.specs.declared.commits.Commits.{Commits}
use Rattle.raid_tables.specs.Rows.{row_of}
use Rattle.raid_tables.specs.Running.{marked, entry_of, noted_of, PassesRunning, KnowsRunning, Ends}
use Rattle.raid_tables.specs.Readers.{KnowsReaders}
use Rattle.raid_tables.specs.Commits.{KnowsCommits}
use Rattle.raid_tables.proofs.Starts.{count_filtered, count_map, read_passes, read_starts, unless_not}

-- the live part of the log is what is carried
pub log_is_carried : (r : Running) (view : List Noted) → KnowsRunning r view → map noted_of (filter (λ s. not (marked r.ended.items s.txn)) r.log.items) ≡ carried view
log_is_carried r view k =
    let same : filter (λ s. not (marked r.ended.items s.txn)) r.log.items ≡ filter (λ s. not (has_ended view s.txn)) r.log.items = simp k.ends in
    ap (λ xs. map noted_of xs) same ∙ k.starts (λ t. not (has_ended view t)) (λ t h. unless_not (has_ended view t) h)

pub if_ok : {T E : Type 0} {P Q : T → Type 0} → (r : Result T E) → ((v : T) → P v → Q v) → IfOk r P → IfOk r Q
if_ok (Ok v) f h = f v h
if_ok (Err e) f h = h

-- the live Reads of the log are those of the view
pub log_reads : (r : Running) (view : List Noted) → KnowsRunning r view →
    count_by (λ s. is_read (λ t x site. not (marked r.ended.items t)) (entry_of s.txn s.what)) r.log.items ≡ count_by (λ n. is_read (λ t x s. not (has_ended view t)) n.entry) view
log_reads r view k =
    let live : Txn → Bool = λ t. not (has_ended view t) in
    let reads : Noted → Bool = λ n. is_read (λ t x s. live t) n.entry in
    let starts : Noted → Bool = λ n. is_start live n.entry in
    let own : Start → Bool = λ s. live s.txn in
    let more = λ (n : Noted) (h : reads n ≡ true). read_starts live n.entry h in
    let same : count_by (λ s. is_read (λ t x site. not (marked r.ended.items t)) (entry_of s.txn s.what)) r.log.items ≡ count_by (λ s. reads (noted_of s)) r.log.items = simp k.ends in
    same ∙ sym (count_filtered (λ s. reads (noted_of s)) own (λ s h. read_passes live s.txn s.what h) r.log.items)
    ∙ sym (count_map reads noted_of (filter own r.log.items))
    ∙ ap (λ ns. count_by reads ns) (k.starts live (λ t h. unless_not (has_ended view t) h)) ∙ count_filtered reads starts more view

-- where the transaction hasn't ended, no Commit is its own
other_commit : (t : Txn) (x : Item) (e : Entry) → is_end_of t e ≡ false → holds x (writes_of e) ≡ is_commit (λ u request. not (is_txn t u) && holds x request.writes) e
other_commit t x (Begin u home) h = refl
other_commit t x (Read u y site) h = refl
other_commit t x (Wait u request) h = refl
other_commit t x (Commit u request applied) h = grind (arith, common_steps, h)
other_commit t x (Abort u cause act) h = refl
other_commit t x (Ack u site) h = refl
other_commit t x (SwitchOn k kind method) h = refl
other_commit t x (SwitchEnd k) h = refl
other_commit t x (Down site) h = refl
other_commit t x (Up site session) h = refl
other_commit t x (Clear site y version) h = refl

pub past_is_overwrite : (t : Txn) (view : List Noted) → has_ended view t ≡ false → (k : ℕ) (x : Item) → list_any (is_past k x) view ≡ list_any (is_overwrite t k x) view
past_is_overwrite t [] h k x = refl
past_is_overwrite t (n ∷ ns) h k x =
    grind (arith, common_steps, h, other_commit t x n.entry, past_is_overwrite t ns (grind (arith, common_steps, h)) k x)

-- what the table of Commits says of the Reads of a transaction
pub overwritten : (r : Running) (c : Commits) (view : List Noted) (t : Txn) → KnowsRunning r view → KnowsCommits c view → has_ended view t ≡ false →
    list_any (λ s. nat_lt s.number (slice_index c.numbers.items s.item.0)) (row_of r.reads.items t.0) ≡ is_backward view t
overwritten r c view t k known goes_on =
    k.reads t goes_on (λ x number. nat_lt number (slice_index c.numbers.items x.0))
    ∙ simp (λ (x : Item) (number : ℕ). sym (known.past x number) ∙ past_is_overwrite t view goes_on number x)

pub past : (r : Running) (c : Commits) (view : List Noted) (t : Txn) → KnowsRunning r view → KnowsCommits c view → has_ended view t ≡ false →
    list_any (λ s. nat_lt (stamp view t) (slice_index c.numbers.items s.item.0)) (row_of r.reads.items t.0) ≡ is_invalid view t
past r c view t k known goes_on =
    k.reads t goes_on (λ x number. nat_lt (stamp view t) (slice_index c.numbers.items x.0)) ∙ simp (λ (x : Item) (number : ℕ). sym (known.past x number))

-- an entry that ends a transaction
has_ended_push : (p : List Noted) (n : Noted) (t : Txn) → has_ended (p ++ n ∷ []) t ≡ (has_ended p t || is_end_of t n.entry)
has_ended_push p n t = grind (arith, common_steps)

filter_push : {X : Type 0} (p : X → Bool) (xs : List X) (x : X) → p x ≡ false → filter p (xs ++ x ∷ []) ≡ filter p xs
filter_push p xs x fails = grind (arith, common_steps, filter-append p xs (x ∷ []), fails)

any_push : {X : Type 0} (p : X → Bool) (xs : List X) (x : X) → p x ≡ false → list_any p (xs ++ x ∷ []) ≡ list_any p xs
any_push p xs x fails = grind (arith, common_steps, fails)

neither : (a b : Bool) → (a || b) ≡ false → (a ≡ false) × (b ≡ false)
neither true b h = absurd (cc h)
neither false b h = (refl, h)

symmetric : (t u : Txn) → is_txn t u ≡ is_txn u t
symmetric t u = grind (arith, common_steps)

knows_end : (r s : Running) (t : Txn) (n : Noted) → ((u : Txn) → is_end_of u n.entry ≡ is_txn u t) → ((u : Txn) → is_begin_of u n.entry ≡ false) →
    ((test : Txn → Item → Site → Bool) → is_read test n.entry ≡ false) → ((test : Txn → Bool) → is_start test n.entry ≡ false) →
    Ends r s t → (view : List Noted) → KnowsRunning r view → KnowsRunning s (view ++ n ∷ [])
knows_end r s t n ends begins reads starts e view k = record {
  ends = λ u. grind (arith, common_steps, e.ends u, k.ends u, has_ended_push view n u, ends u);
  begins = λ u. ap (λ v. slice_index v.items u.0) e.begins ∙ k.begins u ∙ grind (arith, common_steps, number_of_push (is_begin_of u) view n, begins u);
  reads = λ u h test.
      let both = neither (has_ended view u) (is_end_of u n.entry) (sym (has_ended_push view n u) ∙ h) in
      ap (λ ss. list_any (λ s. test s.item s.number) ss) (e.reads u (symmetric t u ∙ sym (ends u) ∙ both.1))
      ∙ k.reads u both.0 test ∙ sym (any_push (λ m. is_read (λ w x s. is_txn u w && test x m.at) m.entry) view n (reads (λ w x s. is_txn u w && test x n.at)));
  starts = λ test p.
      ap (λ xs. map noted_of xs) (e.starts test (λ u h. grind (arith, common_steps, e.ends u, k.ends u, has_ended_push view n u, ends u, p u h)))
      ∙ k.starts test (λ u h. (neither (has_ended view u) (is_end_of u n.entry) (sym (has_ended_push view n u) ∙ p u h)).0)
      ∙ sym (filter_push (λ m. is_start test m.entry) view n (starts test));
}

pub note_commit : (r s : Running) (at k : ℕ) (e : Entry) (t : Txn) (request : Request) (applied : List Site) → e ≡ Commit t request applied → Ends r s t →
    (view : List Noted) → KnowsRunning r view → KnowsRunning s (view ++ record { at = at; stamp = k; entry = e } ∷ [])
note_commit r s at k e t request applied is d view o =
    subst (λ z. KnowsRunning s (view ++ record { at = at; stamp = k; entry = z } ∷ [])) (sym is)
    (knows_end r s t (record { at = at; stamp = k; entry = Commit t request applied }) (λ u. grind (arith, common_steps)) (λ u. refl) (λ test. refl) (λ test. refl) d view o)

pub note_abort : (r s : Running) (at k : ℕ) (e : Entry) (t : Txn) (cause : Cause) (act : Act) → e ≡ Abort t cause act → Ends r s t →
    (view : List Noted) → KnowsRunning r view → KnowsRunning s (view ++ record { at = at; stamp = k; entry = e } ∷ [])
note_abort r s at k e t cause act is d view o =
    subst (λ z. KnowsRunning s (view ++ record { at = at; stamp = k; entry = z } ∷ [])) (sym is)
    (knows_end r s t (record { at = at; stamp = k; entry = Abort t cause act }) (λ u. refl) (λ u. refl) (λ test. refl) (λ test. refl) d view o)

-- a new reader of an item
pub knows_read : (f : Running) (r s : Readers) (at k : ℕ) (t : Txn) (x : Item) (site : Site) →
    ((j : ℕ) → row_of s.rows.items j ≡ (if j == x.0 then filter (λ u. not (marked f.ended.items u)) (row_of r.rows.items j) ++ t ∷ [] else row_of r.rows.items j)) →
    (view : List Noted) → KnowsRunning f view → KnowsReaders r view → KnowsReaders s (view ++ record { at = at; stamp = k; entry = Read t x site } ∷ [])
knows_read f r s at k t x site rows view known o =
    let n : Noted = record { at = at; stamp = k; entry = Read t x site } in
    record {
      readers = λ y test p.
          let passes : PassesRunning view test = λ u h. (neither (has_ended view u) false (sym (has_ended_push view n u) ∙ p u h)).0 in
          let kept = any-filter_same test (λ u. not (marked f.ended.items u)) true (λ u h. grind (arith, common_steps, known.ends u, passes u h)) (row_of r.rows.items y.0) in
          grind (arith, common_steps, rows y.0, kept, o.readers y test passes);
    }

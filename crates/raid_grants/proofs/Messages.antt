-- What a message is that is for an ask; and that a home which knows more is told no less.
use Rattle.std.proofs.Common.{◌≡◌, ℕ, ℤ, ◌+◌, ◌==◌, Bool, true, false, ◌&&◌, List, sym, ap, ◌∙◌, refl}
use Rattle.std.proofs.lemmas.Bool.{and_parts, eqb-true, true≢false}
use Rattle.raid_base.specs.declared.names.Txn.{Txn}
use Rattle.raid_base.specs.declared.names.Item.{Item}
use Rattle.raid_base.specs.declared.names.Site.{Site}
use Rattle.raid_base.specs.Names.{is_txn}
use Rattle.raid_rules.proofs.Push.{same_txn}
use Rattle.raid_message.specs.declared.letter.Message.{Message}
use Rattle.raid_message.specs.declared.letter.Message.TheVariants as letters
use Rattle.raid_message.specs.declared.letter.Letter.{Letter}
use Rattle.raid_layers.specs.Asks.{serves_in}
use Rattle.raid_grants.specs.Grants.{reads_for, brings_for, is_down_note, note_comes}
use Rattle.raid_grants.proofs.Facts.{note_known}

module _ (t : Txn) (ask : ℕ) where
  pub reads_is : (k m : ℕ) (message : Message) → reads_for k m t ask message ≡ true → (x : Item) × ((h : Site) × ((n : ℕ) × ((message ≡ letters.ReadDo t ask x h n) × (((h.0 == k + 1) ≡ true) × ((n == m) ≡ true)))))
  reads_is k m (letters.ReadDo u a x h n) q =
      let b = and_parts (is_txn t u) (a == ask && (h.0 == k + 1 && n == m)) q in
      let c = and_parts (a == ask) (h.0 == k + 1 && n == m) b.1 in
      let d = and_parts (h.0 == k + 1) (n == m) c.1 in
      (x, (h, (n, (ap (λ z. letters.ReadDo z a x h n) (same_txn u t b.0) ∙ ap (λ z. letters.ReadDo t z x h n) (eqb-true a ask c.0), d))))
  reads_is k m other q = absurd (true≢false (sym q))

  pub brings_is : (message : Message) → brings_for t ask message ≡ true → (v : ℤ) × (message ≡ letters.Value t ask v)
  brings_is (letters.Value u a v) q =
      let b = and_parts (is_txn t u) (a == ask) q in
      (v, ap (λ z. letters.Value z a v) (same_txn u t b.0) ∙ ap (λ z. letters.Value t z v) (eqb-true a ask b.1))
  brings_is other q = absurd (true≢false (sym q))

  pub serves_is : (message : Message) → serves_in t ask message ≡ true → (s : Site) × (message ≡ letters.Serving t ask s)
  serves_is (letters.Serving u a s) q =
      let b = and_parts (is_txn t u) (a == ask) q in
      (s, ap (λ z. letters.Serving z a s) (same_txn u t b.0) ∙ ap (λ z. letters.Serving t z s) (eqb-true a ask b.1))
  serves_is other q = absurd (true≢false (sym q))

  pub note_more : (m : ℕ) (s : Site) (a b : Bool) (ls : List Letter) → (a ≡ true → b ≡ true) → note_comes m t ask s a ls ≡ true → note_comes m t ask s b ls ≡ true
  note_more m s a true ls f q = note_known m t ask s a ls q
  note_more m s true false ls f q = absurd (true≢false (sym (f refl)))
  note_more m s false false ls f q = q

pub down_is : (s : Site) (message : Message) → is_down_note s message ≡ true → message ≡ letters.DownNote s
down_is s (letters.DownNote r) q = ap (λ i. letters.DownNote (let z : Site = record { 0 = i } in z)) (eqb-true r.0 s.0 q)
down_is s other q = absurd (true≢false (sym q))

-- What was granted comes: a read is on its way to the site that serves it, or its value to the home that asked; or that site has ended its
-- session, and the home hears of it once it knows who serves. No value of an item is in it.
use Rattle.std.specs.Prelude.{◌≡◌, ℕ, ◌+◌, ◌==◌, Bool, true, false, ◌&&◌, ◌||◌, List, [], ◌∷◌, Option, Some, is_some}
use Rattle.std.specs.List.{list_any}
use Rattle.raid_base.specs.declared.names.Txn.{Txn}
use Rattle.raid_base.specs.declared.names.Item.{Item}
use Rattle.raid_base.specs.declared.names.Site.{Site}
use Rattle.raid_base.specs.declared.entry.Entry.TheVariants.{Read}
use Rattle.raid_base.specs.declared.entry.Noted.{Noted}
use Rattle.raid_base.specs.Names.{is_txn, is_site}
use Rattle.raid_base.specs.Sites.{session, site}
use Rattle.raid_workload.specs.declared.workload.Workload.{Workload}
use Rattle.raid_rules.specs.History.{noted, has_ended}
use Rattle.raid_legal.specs.Seen.{vector, is_up, has_down_after}
use Rattle.raid_legal.specs.Legal.{last_read}
use Rattle.raid_message.specs.declared.letter.Message.{Message}
use Rattle.raid_message.specs.declared.letter.Message.TheVariants as letters
use Rattle.raid_message.specs.declared.letter.Letter.{Letter}
use Rattle.raid_steps.specs.State.{asking, Running, SiteState}
use Rattle.raid_steps.specs.Fits.{knows_site}
use Rattle.raid_steps.specs.Programs.{running_of}
use Rattle.raid_steps.specs.World.{World, link}
use Rattle.raid_layers.specs.Asks.{asks_of, tells_server}
use Rattle.raid_witness.specs.AtHome.{IsAwake}
use Rattle.raid_witness.specs.Ended.{HasEnded, count_reads}

-- the message has an item read for the ask of the transaction, for its home at a place, counted from 0, in its session m
abbrev pub reads_for : ℕ → ℕ → Txn → ℕ → Message → Bool
reads_for k m t ask (letters.ReadDo u a x h n) =
    is_txn t u && (a == ask && (h.0 == k + 1 && n == m))
reads_for k m t ask other = false

-- the letter tells its site so, in session n of it
abbrev pub is_to_read : ℕ → ℕ → ℕ → Txn → ℕ → Letter → Bool
is_to_read n k m t ask l = l.to == n && reads_for k m t ask l.message

-- the message brings a value for the ask
abbrev pub brings_for : Txn → ℕ → Message → Bool
brings_for t ask (letters.Value u a v) = is_txn t u && a == ask
brings_for t ask other = false

-- the letter brings it to the home, in its session m
abbrev pub brings_value : ℕ → Txn → ℕ → Letter → Bool
brings_value m t ask l = l.to == m && brings_for t ask l.message

-- The value for the ask comes from the site, which was in session n: the site is to read it, or it is
-- brought to the home at a place, in the home's session m; or the site's session has ended
pub data ValueComes (sites : List SiteState) (links : List (List (List Letter))) (k m n : ℕ)
    (t : Txn) (ask : ℕ) (s : Site) : Type 0 where
  told : list_any (is_to_read n k m t ask) (link links (s.0 + 1) 1) ≡ true →
      ValueComes sites links k m n t ask s
  brought : list_any (brings_value m t ask) (link links (k + 2) (s.0 + 1)) ≡ true →
      ValueComes sites links k m n t ask s
  ended : HasEnded sites s n → ValueComes sites links k m n t ask s

-- the message says that the site is down
abbrev pub is_down_note : Site → Message → Bool
is_down_note s (letters.DownNote r) = is_site s r
is_down_note s other = false

-- among the letters to the home, in its session m, is a note that the site is down, and it stands where
-- it is known who serves the ask
abbrev pub note_comes : ℕ → Txn → ℕ → Site → Bool → List Letter → Bool
note_comes m t ask s known [] = false
note_comes m t ask s known (l ∷ ls) =
    (known && (l.to == m && is_down_note s l.message))
    || note_comes m t ask s (known || tells_server t m ask l) ls

-- The transaction's last Read is of the item, and what it grants comes to the home at a place, in its
-- session m, where the program waits for the ask and knows q to serve it
pub record IsUnderWay (w : Workload) (p : List Noted) (sites : List SiteState)
    (links : List (List (List Letter))) (k m : ℕ) (t : Txn) (ask : ℕ) (x : Item)
    (q : Option Site) : Type 0 where
  pub read : Noted
  pub server : Site
  pub last : last_read p t ≡ Some read
  pub is : read.entry ≡ Read t x server
  pub known : knows_site w server ≡ true
  -- until the site that is to serve it goes down, it is up
  pub up : has_down_after p read.at server ≡ false → is_up w p server ≡ true
  -- and in the session in which it is, the value comes
  pub comes : has_down_after p read.at server ≡ false →
      ValueComes sites links k m (session (vector w p) server) t ask server
  -- when it has gone down, the home hears of it
  pub falls : has_down_after p read.at server ≡ true →
      note_comes m t ask server (is_some q) (link links (k + 2) 1) ≡ true
  -- it is the home, or the home knows that it serves, or is to be told
  pub serves : (is_site server (site (k + 1))
      || (is_some q || list_any (tells_server t m ask) (link links (k + 2) 1))) ≡ true

-- so it is at each awake home, for each program that waits for an item, whose transaction isn't over,
-- whose ask isn't on its way, and for which as many Reads were placed as it has asked
abbrev pub GrantsCome : Workload → World → Type 0
GrantsCome w state =
    let p = noted state.servers.sequencer.history in
    (k : ℕ) (s : SiteState) → IsAwake state k s →
    (t : Txn) (r : Running) → running_of s t ≡ Some r →
    (ask : ℕ) (x : Item) (q : Option Site) → r.phase ≡ asking ask x q →
    has_ended p t ≡ false →
    asks_of t (link state.links 1 (k + 2)) ≡ [] → count_reads p t ≡ ask →
    IsUnderWay w p state.servers.sites state.links k s.session t ask x q

-- no program at an awake home waits for a read that was granted, unless its transaction is over
abbrev pub NoGrantIsAwaited : Workload → World → Type 0
NoGrantIsAwaited w state =
    let p = noted state.servers.sequencer.history in
    (k : ℕ) (s : SiteState) → IsAwake state k s →
    (t : Txn) (r : Running) → running_of s t ≡ Some r →
    (ask : ℕ) (x : Item) (q : Option Site) → r.phase ≡ asking ask x q →
    has_ended p t ≡ false →
    count_reads p t ≡ ask → ⊥

-- What is on its way to answer an ask: which letters do, and what is known of them.
use Rattle.std.proofs.Common.{◌≡◌, ℕ, zero, suc, ◌+◌, ◌<◌, ◌==◌, true, ◌&&◌, List, [], ◌∷◌, Option, arith, sym, subst, ap, ◌∙◌, refl}
use Rattle.std.specs.Prelude.{⊤}
use Rattle.std.specs.List.{AllByRecursion}
use Rattle.std.proofs.lemmas.Bool.{and_parts, and_from, eqb-true, true≢false}
use Rattle.raid_base.specs.declared.names.Txn.{Txn}
use Rattle.raid_base.specs.declared.names.Item.{Item}
use Rattle.raid_base.specs.declared.names.Site.{Site}
use Rattle.raid_base.specs.declared.entry.Noted.{Noted}
use Rattle.raid_base.specs.Names.{is_txn, is_item}
use Rattle.raid_workload.specs.declared.workload.Workload.{Workload}
use Rattle.raid_message.specs.declared.letter.Message.{Message}
use Rattle.raid_message.specs.declared.letter.Message.TheVariants as letters
use Rattle.raid_message.specs.declared.letter.Letter.{Letter}
use Rattle.raid_steps.specs.State.{SiteState}
use Rattle.raid_steps.specs.World.{link}
use Rattle.raid_sessions.proofs.Lists.{all_weaken, is_same}
use Rattle.raid_layers.specs.Asks.{Token, reading, bringing, serving, Claim, OfSequencer, OfSite, AllTokens, IsBelow, IsOfRead, Outstanding, asked, dropped, read}
use Rattle.raid_layers.proofs.Tokens.{OnLinks, TokenAt, all_weaker}
use Rattle.raid_versions.specs.Versions.{Along, after_letter}
use Rattle.raid_values.specs.Gets.{Ask, reads_for, ReadsSeen, BringsSeen, IsAnsweredBySeen}

-- tokens are of other asks; and those of the ask are of its item
abbrev pub IsNot : ℕ → Claim
IsNot number a token = a ≡ number → ⊥

abbrev pub IsOfItem : ℕ → Item → Claim
IsOfItem number x a (reading server y) = a ≡ number → y ≡ x
IsOfItem number x a bringing = ⊤
IsOfItem number x a (serving s) = ⊤

-- tokens of earlier asks are of others
pub below_not : (number a : ℕ) (token : Token) → a < number → IsNot number a token
below_not number a token low e = omega (arith, low, e)

-- of an ask that is outstanding they are of the item
pub of_item : (p : List Noted) (links : List (List (List Letter))) (k m : ℕ) (t : Txn) (number : ℕ) (x : Item) (q : Option Site) (asks : List Message) → Outstanding p links k m t number x q asks → AllTokens links t k m (IsOfItem number x)
of_item p links k m t number x q asks = go
  where
    low : (a : ℕ) (token : Token) → a < number → IsOfItem number x a token
    low a (reading server y) l = λ e. absurd (omega (arith, l, e))
    low a bringing l = tt
    low a (serving s) l = tt

    its : (s : Site) (a : ℕ) (token : Token) → IsOfRead number x s a token → IsOfItem number x a token
    its s a (reading server y) h = λ e. (h.1 e).1
    its s a bringing h = tt
    its s a (serving r) h = tt

    go : Outstanding p links k m t number x q asks → AllTokens links t k m (IsOfItem number x)
    go (asked e n toks) = all_weaker t k m links (IsBelow number) (IsOfItem number x) low toks
    go (dropped e n toks) = all_weaker t k m links (IsBelow number) (IsOfItem number x) low toks
    go (read n s e l is has toks server falls) = all_weaker t k m links (IsOfRead number x s) (IsOfItem number x) (its s) toks

-- a letter that has the item read for the ask
pub record IsReadFor (a : Ask) (t : Txn) (number : ℕ) (x : Item) (home : Site) (session : ℕ) : Type 0 where
  pub own : is_txn a.txn t ≡ true
  pub numbered : number ≡ a.number
  pub of : is_item a.item x ≡ true
  pub at : (home.0 == a.place + 1) ≡ true
  pub meant : (session == a.session) ≡ true

pub read_parts : (a : Ask) (t : Txn) (number : ℕ) (x : Item) (home : Site) (session : ℕ) → reads_for a (letters.ReadDo t number x home session) ≡ true → IsReadFor a t number x home session
read_parts a t number x home session q =
    let e = and_parts (is_txn a.txn t && number == a.number && is_item a.item x && home.0 == a.place + 1) (session == a.session) q in
    let d = and_parts (is_txn a.txn t && number == a.number && is_item a.item x) (home.0 == a.place + 1) e.0 in
    let c = and_parts (is_txn a.txn t && number == a.number) (is_item a.item x) d.0 in
    let b = and_parts (is_txn a.txn t) (number == a.number) c.0 in
    record { own = b.0; numbered = eqb-true number a.number b.1; of = c.1; at = d.1; meant = e.1 }

pub read_whole : (a : Ask) (t : Txn) (number : ℕ) (x : Item) (home : Site) (session : ℕ) → IsReadFor a t number x home session → reads_for a (letters.ReadDo t number x home session) ≡ true
read_whole a t number x home session r =
    and_from (is_txn a.txn t && number == a.number && is_item a.item x && home.0 == a.place + 1) (session == a.session)
    (and_from (is_txn a.txn t && number == a.number && is_item a.item x) (home.0 == a.place + 1)
    (and_from (is_txn a.txn t && number == a.number) (is_item a.item x) (and_from (is_txn a.txn t) (number == a.number) r.own (is_same number a.number r.numbered)) r.of) r.at) r.meant

pub record IsBroughtFor (a : Ask) (to : ℕ) (t : Txn) (number : ℕ) : Type 0 where
  pub own : is_txn a.txn t ≡ true
  pub numbered : number ≡ a.number
  pub meant : (to == a.session) ≡ true

pub brought_parts : (a : Ask) (to : ℕ) (t : Txn) (number : ℕ) → (is_txn a.txn t && number == a.number && to == a.session) ≡ true → IsBroughtFor a to t number
brought_parts a to t number q =
    let c = and_parts (is_txn a.txn t && number == a.number) (to == a.session) q in
    let b = and_parts (is_txn a.txn t) (number == a.number) c.0 in
    record { own = b.0; numbered = eqb-true number a.number b.1; meant = c.1 }

-- where tokens are of other asks, no letter answers this one
pub none_read : (a : Ask) (server to : ℕ) (message : Message) → OfSequencer a.txn a.place a.session (IsNot a.number) server to message → reads_for a message ≡ true → ⊥
none_read a server to (letters.ReadDo t number x home session) h q = (let r = read_parts a t number x home session q in h r.own r.at r.meant r.numbered)
none_read a server to other h q = true≢false (sym q)

pub none_brought : (w : Workload) (p : List Noted) (a : Ask) (to : ℕ) (message : Message) → OfSite a.txn a.place a.session (IsNot a.number) (a.place + 2) to message → BringsSeen w p a to message
none_brought w p a to (letters.Value t number v) h = λ q. (let r = brought_parts a to t number q in absurd (h r.own (is_same (a.place + 2) (a.place + 2) refl) r.meant r.numbered))
none_brought w p a to other h = tt

-- letters none of which has the item read for the ask
abbrev pub NoneReads : Ask → List Letter → Type 0
NoneReads a ls = AllByRecursion (λ (l : Letter). reads_for a l.message ≡ true → ⊥) ls

pub along_none : (w : Workload) (p q : List Noted) (a : Ask) (x : Item) (m v : ℕ) (ls : List Letter) → NoneReads a ls → Along (ReadsSeen w q a) p x m v ls
along_none w p q a x m v [] h = tt
along_none w p q a x m v (l ∷ ls) h = ((λ meant reads. absurd (h.0 reads)), along_none w p q a x m (after_letter p x m v l) ls h.1)

pub none_on : (a : Ask) (links : List (List (List Letter))) (j : ℕ) → AllTokens links a.txn a.place a.session (IsNot a.number) → NoneReads a (link links (j + 2) 1)
none_on a links j h = all_weaken (TokenAt a.txn a.place a.session (IsNot a.number) (j + 2) 1) (λ (l : Letter). reads_for a l.message ≡ true → ⊥) (link links (j + 2) 1) (λ l h. none_read a (j + 2) l.to l.message h) (h (j + 2) 1)

-- what sites bring for the ask, by link
abbrev pub Brought : Workload → List Noted → Ask → ℕ → ℕ → Letter → Type 0
Brought w p a server (suc (suc j)) l = server ≡ a.place + 2 → BringsSeen w p a l.to l.message
Brought w p a server other l = ⊤

all_true : (ls : List Letter) → AllByRecursion (λ (l : Letter). ⊤) ls
all_true [] = tt
all_true (l ∷ ls) = (tt, all_true ls)

pub brought_links : (w : Workload) (p : List Noted) (a : Ask) (links : List (List (List Letter))) → ((j : ℕ) → AllByRecursion (λ (l : Letter). BringsSeen w p a l.to l.message) (link links (a.place + 2) (j + 2))) → OnLinks (Brought w p a) links
brought_links w p a links each server zero = all_true (link links server zero)
brought_links w p a links each server (suc zero) = all_true (link links server (suc zero))
brought_links w p a links each server (suc (suc j)) = when (link links server (suc (suc j))) (λ here. subst (AllByRecursion (λ (l : Letter). BringsSeen w p a l.to l.message)) (ap (λ c. link links c (j + 2)) (sym here) ∙ ap (link links server) (let e : j + 2 ≡ suc (suc j) = omega arith in e)) (each j))
  where
    when : (ls : List Letter) → (server ≡ a.place + 2 → AllByRecursion (λ (l : Letter). BringsSeen w p a l.to l.message) ls) → AllByRecursion (Brought w p a server (suc (suc j))) ls
    when [] f = tt
    when (l ∷ ls) f = ((λ here. (f here).0), when ls (λ here. (f here).1))

pub links_brought : (w : Workload) (p : List Noted) (a : Ask) (links : List (List (List Letter))) → OnLinks (Brought w p a) links → (j : ℕ) → AllByRecursion (λ (l : Letter). BringsSeen w p a l.to l.message) (link links (a.place + 2) (j + 2))
links_brought w p a links h j =
    subst (λ c. AllByRecursion (λ (l : Letter). BringsSeen w p a l.to l.message) (link links (a.place + 2) c)) (let e : suc (suc j) ≡ j + 2 = omega arith in e)
    (all_weaken (Brought w p a (a.place + 2) (suc (suc j))) (λ (l : Letter). BringsSeen w p a l.to l.message) (link links (a.place + 2) (suc (suc j))) (λ l h. h refl) (h (a.place + 2) (suc (suc j))))

-- so nothing is claimed
pub none_answers : (w : Workload) (p : List Noted) (sites : List SiteState) (links : List (List (List Letter))) (a : Ask) → AllTokens links a.txn a.place a.session (IsNot a.number) → IsAnsweredBySeen w p sites links a
none_answers w p sites links a h = record {
  read = λ j s c live has. along_none w p p a a.item s.session c.version (link links (j + 2) 1) (none_on a links j h);
  brought = λ j. subst (λ d. AllByRecursion (λ (l : Letter). BringsSeen w p a l.to l.message) (link links (a.place + 2) d)) (let e : suc (suc j) ≡ j + 2 = omega arith in e)
      (all_weaken (TokenAt a.txn a.place a.session (IsNot a.number) (a.place + 2) (suc (suc j))) (λ (l : Letter). BringsSeen w p a l.to l.message) (link links (a.place + 2) (suc (suc j)))
      (λ l h. none_brought w p a l.to l.message h) (h (a.place + 2) (suc (suc j))));
}

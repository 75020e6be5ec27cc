-- What is sent for an entry, from what the record has.
use Rattle.std.proofs.Common.{◌≡◌, ℕ, ◌+◌, not, ◌&&◌, if◌then◌else◌, List, [], ◌∷◌, ◌++◌, map, filter, length, append_assoc, ap, sym, ◌∙◌}
use Rattle.std.specs.Prelude.{flat_map}
use Rattle.raid_base.specs.declared.names.Txn.{Txn}
use Rattle.raid_base.specs.declared.names.Item.{Item}
use Rattle.raid_base.specs.declared.names.Site.{Site}
use Rattle.raid_base.specs.declared.entry.Noted.{Noted}
use Rattle.raid_base.specs.Names.{is_site, has_site}
use Rattle.raid_base.specs.Sites.{site, all_sites, session}
use Rattle.raid_workload.specs.declared.workload.Workload.{Workload}
use Rattle.raid_workload.specs.Parts as parts
use Rattle.raid_rules.specs.Sessions.{is_site_up}
use Rattle.raid_legal.specs.Seen as seen
use Rattle.raid_message.specs.declared.letter.Message.{Message}
use Rattle.raid_message.specs.declared.letter.Message.TheVariants as letters
use Rattle.raid_steps.specs.State.{Out, to_site}
use Rattle.raid_steps.specs.Sequencer.{to_all, read_sends, commit_sends, up_sends, next_number}
use Rattle.raid_record.proofs.Lists.{kept_twice}
use Rattle.raid_record.proofs.Rules.{few_sites}
use Rattle.raid_record.proofs.Sites.{all_up, sites_to, made_more}

-- the up sites
pub up_of : (w : Workload) (p : List Noted) (v : List ℕ) → v ≡ seen.vector w p → length v ≡ w.sites → filter (is_site_up v) all_sites ≡ filter (seen.is_up w p) (parts.sites w)
up_of w p v is size = sym (all_up v w.sites size (few_sites w)) ∙ ap (λ u. filter (is_site_up u) (parts.sites w)) is

pub to_all_of : (w : Workload) (p : List Noted) (v : List ℕ) (up : List Site) (message : Message) → v ≡ seen.vector w p → length v ≡ w.sites → up ≡ filter (is_site_up v) all_sites →
    map (λ s. to_site v s message) up ≡ to_all w p message
to_all_of w p v up message is size e = ap (map (λ s. to_site v s message)) (e ∙ up_of w p v is size) ∙ ap (λ u. map (λ s. to_site u s message) (filter (seen.is_up w p) (parts.sites w))) is

-- a read
abbrev pub read_outs : List ℕ → Site → ℕ → Txn → Item → Site → List Out
read_outs v h ask t x s = to_site v s (letters.ReadDo t ask x h (session v h)) ∷ (if is_site s h then [] else to_site v h (letters.Serving t ask s) ∷ [])

pub read_of : (w : Workload) (p : List Noted) (v : List ℕ) (h : Site) (ask : ℕ) (t : Txn) (x : Item) (s : Site) → v ≡ seen.vector w p → h ≡ parts.home w t → read_outs v h ask t x s ≡ read_sends w p ask t x s
read_of w p v h ask t x s is at = ap (λ u. read_outs u h ask t x s) is ∙ ap (λ g. read_outs (seen.vector w p) g ask t x s) at

-- a commit, by site
abbrev pub commit_outs : List ℕ → Site → ℕ → Txn → List Site → Site → List Out
commit_outs v h n t applied s = (if has_site applied s then to_site v s (letters.Apply t n) ∷ [] else []) ++ (if is_site s h && is_site_up v s then to_site v s (letters.Done t) ∷ [] else [])

pub commit_more : (v : List ℕ) (h : Site) (n : ℕ) (t : Txn) (applied : List Site) (k : ℕ) (first before between after : List Out) →
    before ≡ first ++ flat_map (commit_outs v h n t applied) (sites_to k) →
    between ≡ before ++ (if has_site applied (site (k + 1)) then to_site v (site (k + 1)) (letters.Apply t n) ∷ [] else []) →
    after ≡ between ++ (if is_site (site (k + 1)) h && is_site_up v (site (k + 1)) then to_site v (site (k + 1)) (letters.Done t) ∷ [] else []) →
    after ≡ first ++ flat_map (commit_outs v h n t applied) (sites_to (k + 1))
commit_more v h n t applied k first before between after a b c =
    c ∙ ap (λ xs. xs ++ done) (b ∙ ap (λ xs. xs ++ apply) a) ∙ append_assoc (first ++ so_far) apply done ∙ append_assoc first so_far (apply ++ done)
    ∙ ap (λ xs. first ++ xs) (sym (made_more (commit_outs v h n t applied) k))
  where
    so_far : List Out
    so_far = flat_map (commit_outs v h n t applied) (sites_to k)

    apply : List Out
    apply = if has_site applied (site (k + 1)) then to_site v (site (k + 1)) (letters.Apply t n) ∷ [] else []

    done : List Out
    done = if is_site (site (k + 1)) h && is_site_up v (site (k + 1)) then to_site v (site (k + 1)) (letters.Done t) ∷ [] else []

pub commit_of : (w : Workload) (p : List Noted) (v : List ℕ) (h : Site) (n sites : ℕ) (t : Txn) (applied : List Site) →
    v ≡ seen.vector w p → h ≡ parts.home w t → n ≡ length p → sites ≡ w.sites → flat_map (commit_outs v h n t applied) (sites_to sites) ≡ flat_map (commit_sends w p t applied) (parts.sites w)
commit_of w p v h n sites t applied is at number size =
    ap (λ k. flat_map (commit_outs v h n t applied) (sites_to k)) size
    ∙ ap (λ u. flat_map (commit_outs u h n t applied) (parts.sites w)) is
    ∙ ap (λ g. flat_map (commit_outs (seen.vector w p) g n t applied) (parts.sites w)) at
    ∙ ap (λ k. flat_map (commit_outs (seen.vector w p) (parts.home w t) k t applied) (parts.sites w)) number

-- an Up
pub up_sends_of : (w : Workload) (p : List Noted) (v : List ℕ) (s : Site) (session next : ℕ) (up others : List Site) → v ≡ seen.vector w p → length v ≡ w.sites → next ≡ next_number w p s →
    up ≡ filter (is_site_up v) all_sites → others ≡ filter (λ r. not (is_site s r)) up →
    to_site v s (letters.Welcome v next) ∷ map (λ r. to_site v r (letters.UpNote s session)) others ≡ up_sends w p s session
up_sends_of w p v s session next up others is size at e o =
    ap (λ u. to_site u s (letters.Welcome u next) ∷ map (λ r. to_site u r (letters.UpNote s session)) others) is
    ∙ ap (λ k. to_site (seen.vector w p) s (letters.Welcome (seen.vector w p) k) ∷ map (λ r. to_site (seen.vector w p) r (letters.UpNote s session)) others) at
    ∙ ap (λ rs. to_site (seen.vector w p) s (letters.Welcome (seen.vector w p) (next_number w p s)) ∷ map (λ r. to_site (seen.vector w p) r (letters.UpNote s session)) rs)
    (o ∙ ap (filter (λ r. not (is_site s r))) (e ∙ up_of w p v is size) ∙ kept_twice (seen.is_up w p) (λ r. not (is_site s r)) (parts.sites w))

-- The world at the start has the last versions, and a step of the monitor leaves them as they were.
use Rattle.std.proofs.Common.{◌≡◌, ◌≢◌, inl, ℕ, ℤ, zero, suc, ◌+◌, ◌==◌, true, List, [], ◌∷◌, map, filter, Some, arith, sym, subst, ◌∙◌, refl}
use Rattle.std.specs.Prelude.{⊤, slice_get, slice_index_or}
use Rattle.std.specs.List.{AllByRecursion}
use Rattle.std.proofs.lemmas.Bool.{true≢false}
use Rattle.raid_base.specs.declared.names.Item.{Item}
use Rattle.raid_base.specs.declared.names.Site.{Site}
use Rattle.raid_base.specs.declared.entry.Noted.{Noted}
use Rattle.raid_base.specs.Names.{is_item}
use Rattle.raid_base.specs.Sites.{site}
use Rattle.raid_workload.specs.declared.workload.Workload.{Workload}
use Rattle.raid_workload.specs.Parts.{sites, items, initial}
use Rattle.raid_message.specs.declared.letter.Message.{Message}
use Rattle.raid_message.specs.declared.letter.Message.TheVariants as letters
use Rattle.raid_message.specs.declared.letter.Letter.{Letter}
use Rattle.raid_steps.specs.State.{Out, Copy, SiteState}
use Rattle.raid_steps.specs.Copies.{copy_of}
use Rattle.raid_steps.specs.World.{link, set_link, open_world, first_links}
use Rattle.raid_sessions.proofs.Lists.{all_weaken}
use Rattle.raid_sessions.proofs.Mail.{moved, set_server}
use Rattle.raid_moves.proofs.Places.{all_found}
use Rattle.raid_asks.proofs.Reached.{first_state}
use Rattle.raid_letters.specs.Says.{is_held}
use Rattle.raid_letters.proofs.Runs.{all_at, all_empty}
use Rattle.raid_versions.specs.Versions.{is_pending, after_letter, latest, Along, ReadsWhole, IsKeptUp, ApplyOwed, Told, AboveAt, Brings, Sends, LastVersions, HaveLastVersions}
use Rattle.raid_versions.proofs.Sent.{posts_others}
use Rattle.raid_versions.proofs.SiteLetters.{Effect, leaves, sets, effect, along_weaken}

-- what holds of whatever letter holds along all
along_always : (Q : ℕ → Message → List Letter → Type 0) → ((v : ℕ) (message : Message) (behind : List Letter) → Q v message behind) → (p : List Noted) (x : Item) (m v : ℕ) (ls : List Letter) → Along Q p x m v ls
along_always Q each p x m v [] = tt
along_always Q each p x m v (l ∷ ls) = ((λ meant. each v l.message ls), along_always Q each p x m (after_letter p x m v l) ls)

-- while nothing was written, versions stay
latest_first : (x : Item) (m v : ℕ) (ls : List Letter) → latest [] x m v ls ≡ v
latest_first x m v [] = refl
latest_first x m v (l ∷ ls) = latest_first x m (after_letter [] x m v l) ls ∙ go (effect [] x m l)
  where
    go : Effect [] x m l → after_letter [] x m v l ≡ v
    go (leaves same) = same v
    go (sets t number meant is written set) = absurd (true≢false (sym written))

module _ (w : Workload) where
  -- each letter at the start is a Welcome
  abbrev pub IsWelcome : Message → Type 0
  IsWelcome (letters.Welcome v next) = ⊤
  IsWelcome other = ⊥

  abbrev pub AreWelcomes : List Letter → Type 0
  AreWelcomes ls = AllByRecursion (λ (l : Letter). IsWelcome l.message) ls

  rows_open : (ss : List Site) → AllByRecursion (AllByRecursion AreWelcomes) (map (first_links w) ss)
  rows_open [] = tt
  rows_open (s ∷ ss) = ((tt, ((tt, tt), all_empty AreWelcomes w.sites [] tt)), rows_open ss)

  pub welcomes : (server from : ℕ) → AreWelcomes (link (open_world w).links server from)
  welcomes server from =
      all_at AreWelcomes (slice_index_or (open_world w).links server []) from []
      (all_at (AllByRecursion AreWelcomes) (open_world w).links server [] (all_empty AreWelcomes (w.sites + 2) [] tt, (all_empty AreWelcomes (w.sites + 2) [] tt, rows_open (sites w))) tt) tt

  owed_open : (here : Site) (m : Message) → IsWelcome m → ApplyOwed [] here m
  owed_open here (letters.Welcome v next) q = tt
  owed_open here other q = absurd q

  told_open : (s : SiteState) (m : Message) → IsWelcome m → Told [] s m
  told_open s (letters.Welcome v next) q = tt
  told_open s other q = absurd q

  brings_open : (k to : ℕ) (m : Message) → IsWelcome m → Brings [] (open_world w).servers.sites (open_world w).links k to m
  brings_open k to (letters.Welcome v next) q = tt
  brings_open k to other q = absurd q

  -- each copy has version 0
  first_versions : (f : Item → ℤ) (ys : List Item) → AllByRecursion (λ (c : Copy). c.version ≡ 0) (map (λ y. let c : Copy = record { item = y; value = f y; version = 0 } in c) ys)
  first_versions f [] = tt
  first_versions f (y ∷ ys) = (refl, first_versions f ys)

  first_version : (k : ℕ) (s : SiteState) → slice_get (open_world w).servers.sites k ≡ Some s → (x : Item) (c : Copy) → copy_of s x ≡ Some c → c.version ≡ 0
  first_version k s at x c has =
      all_found (λ (c : Copy). c.version ≡ 0) (λ (c : Copy). is_item x c.item) s.copies c
      (subst (λ (z : SiteState). AllByRecursion (λ (c : Copy). c.version ≡ 0) z.copies) (first_state w 1 w.sites k s at) (first_versions (initial w) (filter (is_held w (site (1 + k))) (items w)))) has

  first_kept : (here : Site) (x : Item) (m v : ℕ) (notes : List Letter) → v ≡ 0 → IsKeptUp [] here x m v notes
  first_kept here x m v notes none = record {
    current = λ unlocked. latest_first x m v notes ∙ none;
    locked = λ locked number pending. refl;
    above = λ number pending written. absurd (true≢false (sym written));
    whole = along_always (ReadsWhole [] x m) (λ v message behind reads number written more. absurd (true≢false (sym written))) [] x m v notes;
  }

  first_sends : (x : Item) (v : ℕ) (message : Message) (behind : List Letter) → Sends [] (open_world w).servers.sites (open_world w).links x v message behind
  first_sends x v (letters.CopyDo y target n) behind = λ same j is s live session number pending written. absurd (true≢false (sym written))
  first_sends x v other behind = tt

  pub open_versions : HaveLastVersions (open_world w)
  open_versions = record {
    versions = λ k s at x c has. inl (first_version k s at x c has);
    unlocked = λ k s at x c has unlocked. inl (first_version k s at x c has);
    kept = λ k s live x c has. first_kept (site (k + 1)) x s.session c.version (link (open_world w).links (k + 2) 1) (first_version k s live.at x c has);
    owed = λ k s live. all_weaken (λ (l : Letter). IsWelcome l.message) (λ (l : Letter). (l.to == s.session) ≡ true → ApplyOwed [] (site (k + 1)) l.message) (link (open_world w).links (k + 2) 1) (λ l q meant. owed_open (site (k + 1)) l.message q) (welcomes (k + 2) 1);
    told = λ k s at. all_weaken (λ (l : Letter). IsWelcome l.message) (λ (l : Letter). Told [] s l.message) (link (open_world w).links 1 (k + 2)) (λ l q. told_open s l.message q) (welcomes 1 (k + 2));
    brought = λ k j. all_weaken (λ (l : Letter). IsWelcome l.message) (λ (l : Letter). Brings [] (open_world w).servers.sites (open_world w).links k l.to l.message) (link (open_world w).links (k + 2) (j + 2)) (λ l q. brings_open k l.to l.message q) (welcomes (k + 2) (j + 2));
    sent = λ k s live x c has. along_always (Sends [] (open_world w).servers.sites (open_world w).links x) (first_sends x) [] x s.session c.version (link (open_world w).links (k + 2) 1);
  }

-- where the links that are neither to nor from the monitor are the same
module _ (p : List Noted) (ss : List SiteState) (links after : List (List (List Letter))) (same : (c d : ℕ) → c ≢ 0 → d ≢ 0 → link after c d ≡ link links c d) where
  two : (k : ℕ) → k + 2 ≢ 0
  two k e = omega (arith, e)

  one : suc zero ≢ zero
  one e = omega (arith, e)

  above_same : (k n : ℕ) (x : Item) (v : ℕ) → AboveAt p ss links k n x v → AboveAt p ss after k n x v
  above_same k n x v h s live session number pending = h s live session number (subst (λ ls. is_pending n number ls ≡ true) (same (k + 2) 1 (two k) one) pending)

  brings_same : (k to : ℕ) (m : Message) → Brings p ss links k to m → Brings p ss after k to m
  brings_same k to (letters.CopyValue x value v) h = (h.0, above_same k to x v h.1)
  brings_same k to other h = tt

  sends_same : (x : Item) (v : ℕ) (message : Message) (behind : List Letter) → Sends p ss links x v message behind → Sends p ss after x v message behind
  sends_same x v (letters.CopyDo y target n) behind h = λ item j is. above_same j n x v (h item j is)
  sends_same x v other behind h = tt

  pub last_same : LastVersions p ss links → LastVersions p ss after
  last_same last = record {
    versions = last.versions;
    unlocked = last.unlocked;
    kept = λ k s live x c has. subst (IsKeptUp p (site (k + 1)) x s.session c.version) (sym (same (k + 2) 1 (two k) one)) (last.kept k s live x c has);
    owed = λ k s live. subst (AllByRecursion (λ (l : Letter). (l.to == s.session) ≡ true → ApplyOwed p (site (k + 1)) l.message)) (sym (same (k + 2) 1 (two k) one)) (last.owed k s live);
    told = λ k s at. subst (AllByRecursion (λ (l : Letter). Told p s l.message)) (sym (same 1 (k + 2) one (two k))) (last.told k s at);
    brought = λ k j. all_weaken (λ (l : Letter). Brings p ss links k l.to l.message) (λ (l : Letter). Brings p ss after k l.to l.message) (link after (k + 2) (j + 2)) (λ l h. brings_same k l.to l.message h)
        (subst (AllByRecursion (λ (l : Letter). Brings p ss links k l.to l.message)) (sym (same (k + 2) (j + 2) (two k) (two j))) (last.brought k j));
    sent = λ k s live x c has. along_weaken p x s.session (Sends p ss links x) (Sends p ss after x) (sends_same x) c.version (link after (k + 2) 1)
        (subst (Along (Sends p ss links x) p x s.session c.version) (sym (same (k + 2) 1 (two k) one)) (last.sent k s live x c has));
  }

-- the monitor takes a letter to itself, and sends to others
pub monitor_versions : (p : List Noted) (ss : List SiteState) (links : List (List (List Letter))) (from clock : ℕ) (rest : List Letter) (outs : List Out) → LastVersions p ss links → LastVersions p ss (moved links 0 from 0 clock rest outs)
monitor_versions p ss links from clock rest outs last =
    last_same p ss links (moved links 0 from 0 clock rest outs)
    (λ c d other differ. posts_others 0 0 clock outs (set_link links 0 from rest) c d differ ∙ set_server links 0 from c d rest other) last

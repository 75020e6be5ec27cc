-- Where each ballot awaits a vote, no program asks to commit.
use Rattle.std.proofs.Common.{◌≡◌, ℤ, ◌==◌, Bool, true, false, true≢false, if◌then◌else◌, List, [], ◌∷◌, length, map, fold, Option, Some, None, ap, subst, ◌∙◌, refl}
use Rattle.std.specs.Prelude.{find}
use Rattle.std.specs.List.{list_any}
use Rattle.std.specs.Option.{option_map_or}
use Rattle.std.proofs.lemmas.Bool.{or_parts}
use Rattle.raid_base.specs.declared.names.Txn.{Txn}
use Rattle.raid_base.specs.declared.names.Item.{Item}
use Rattle.raid_base.specs.declared.names.Site.{Site}
use Rattle.raid_steps.specs.State.{Turn, asking, preparing, sent, Running, SiteState}
use Rattle.raid_steps.specs.Programs.{ask_commit, ask_commits}
use Rattle.raid_driver.specs.declared.task.Doing.{Doing}
use Rattle.raid_driver.specs.declared.task.Doing.TheVariants.{Asking, Done, Over}
use Rattle.raid_driver.specs.declared.task.Task.{Task}
use Rattle.raid_vote.specs.declared.changes.Ballot.{Ballot}
use Rattle.raid_vote.specs.Ballots.{is_of, is_ready}
use Rattle.raid_site.specs.Whole.{phase_of, running_of}

-- the ballot that is found awaits a vote
found_awaits : (t : Txn) (bs : List Ballot) (b : Ballot) → list_any is_ready bs ≡ false → find (is_of t) bs ≡ Some b → is_ready b ≡ false
found_awaits t [] b none found = absurd (cc found)
found_awaits t (c ∷ bs) b none found = let parts = or_parts (is_ready c) (list_any is_ready bs) none in found_cons t c bs b (is_of t c) parts.0 found (found_awaits t bs b parts.1)
  where
    found_cons : (t : Txn) (c : Ballot) (bs : List Ballot) (b : Ballot) (y : Bool) → is_ready c ≡ false → (if y then Some c else find (is_of t) bs) ≡ Some b → (find (is_of t) bs ≡ Some b → is_ready b ≡ false) → is_ready b ≡ false
    found_cons t c bs b true first found rest = let same : c ≡ b = cc found in subst (λ (z : Ballot). is_ready z ≡ false) same first
    found_cons t c bs b false first found rest = rest found

sites_awaited : (T : Turn SiteState) (r : Running) (reads writes : List (Item × ℤ)) (sites : List Site) → (length sites == 0) ≡ false → ask_commit T r (preparing reads writes sites) ≡ T
sites_awaited T r reads writes [] some = absurd (true≢false some)
sites_awaited T r reads writes (s ∷ ss) some = refl

voted_on : (T : Turn SiteState) (r : Running) (bs : List Ballot) (t : Txn) (reads writes : List (Item × ℤ)) (o : Option Ballot) → list_any is_ready bs ≡ false → find (is_of t) bs ≡ o →
    ask_commit T r (option_map_or (λ (b : Ballot). preparing reads writes b.awaited) o sent) ≡ T
voted_on T r bs t reads writes None none is = refl
voted_on T r bs t reads writes (Some b) none is = sites_awaited T r reads writes b.awaited (found_awaits t bs b none is)

one_silent : (T : Turn SiteState) (r : Running) (bs : List Ballot) (t : Txn) (d : Doing) → list_any is_ready bs ≡ false → ask_commit T r (phase_of bs t d) ≡ T
one_silent T r bs t (Asking k x q) none = refl
one_silent T r bs t (Done reads writes) none = voted_on T r bs t reads writes (find (is_of t) bs) none refl
one_silent T r bs t Over none = refl

pub all_silent : (bs : List Ballot) (rs : List Task) (T : Turn SiteState) → list_any is_ready bs ≡ false → fold (λ (now : Turn SiteState) (r : Running). ask_commit now r r.phase) T (map (running_of bs) rs) ≡ T
all_silent bs [] T none = refl
all_silent bs (r ∷ rs) T none =
    ap (λ (z : Turn SiteState). fold (λ (now : Turn SiteState) (q : Running). ask_commit now q q.phase) z (map (running_of bs) rs)) (one_silent T (running_of bs r) bs r.txn r.doing none) ∙ all_silent bs rs T none

-- Which values copies have, and which they get by what is on its way to their sites.
use Rattle.std.specs.Prelude.{◌≡◌, ℕ, ℤ, ◌+◌, ◌==◌, false, List, fold, unwrap_or, Some, slice_get, ⊤, if◌then◌else◌}
use Rattle.std.specs.List.{AllByRecursion}
use Rattle.std.specs.Option.{option_map_or}
use Rattle.raid_base.specs.declared.names.Item.{Item}
use Rattle.raid_base.specs.declared.entry.Noted.{Noted}
use Rattle.raid_base.specs.Find.{first_of}
use Rattle.raid_base.specs.Sites.{site}
use Rattle.raid_workload.specs.declared.workload.Workload.{Workload}
use Rattle.raid_workload.specs.Parts.{initial}
use Rattle.raid_rules.specs.Entries.{writes_of}
use Rattle.raid_rules.specs.History.{version}
use Rattle.raid_rules.specs.Sessions.{is_copy_locked}
use Rattle.raid_legal.specs.Seen.{value_of}
use Rattle.raid_legal.specs.Serial.{Each, IsCurrent}
use Rattle.raid_message.specs.declared.letter.Message.{Message}
use Rattle.raid_message.specs.declared.letter.Message.TheVariants as letters
use Rattle.raid_message.specs.declared.letter.Letter.{Letter}
use Rattle.raid_steps.specs.State.{Copy, SiteState}
use Rattle.raid_steps.specs.Copies.{staged_of, renewed}
use Rattle.raid_steps.specs.World.{World, link, report}
use Rattle.raid_staged.specs.Staged.{history}
use Rattle.raid_versions.specs.Versions.{IsLive}

-- the value that the Commit with this number gave the item; its initial one, if there is no such Commit, as there is none for 0
abbrev pub committed_value : Workload → List Noted → Item → ℕ → ℤ
committed_value w p x number = fold (λ v n. if n.at == number then unwrap_or (first_of x (writes_of n.entry)) v else v) (initial w x) p

-- the copy has the value that the Commit with its version gave its item
abbrev pub IsCommitted : Workload → List Noted → Copy → Type 0
IsCommitted w p c = c.value ≡ committed_value w p c.item c.version

-- so has a copy that a site sends another
abbrev pub BringsCommitted : Workload → List Noted → Message → Type 0
BringsCommitted w p (letters.CopyValue x v version) = v ≡ committed_value w p x version
BringsCommitted w p other = ⊤

-- copies have the values of their commits
pub record CopiesAreCommitted (w : Workload) (state : World) : Type 0 where
  -- each copy of each site, whether it is up or not
  pub copies : (k : ℕ) (s : SiteState) → slice_get state.servers.sites k ≡ Some s → AllByRecursion (IsCommitted w (history state)) s.copies
  -- copies on their way to the site at the first place, from the one at the second
  pub brought : (k j : ℕ) → AllByRecursion (λ (l : Letter). BringsCommitted w (history state) l.message) (link state.links (k + 2) (j + 2))

-- the copy after its site has heard a message: an Apply renews it by what is staged for its transaction
abbrev pub after_hearing : SiteState → Copy → Message → Copy
after_hearing s c (letters.Apply t number) = option_map_or (λ ps. renewed number ps c) (staged_of s t) c
after_hearing s c other = c

-- and after it has heard, of these letters, those that are meant for its session
abbrev pub after_all : SiteState → Copy → List Letter → Copy
after_all s c ls = fold (λ (c : Copy) (l : Letter). if l.to == s.session then after_hearing s c l.message else c) c ls

-- the copy has its item's value and version
pub record IsCurrentIn (w : Workload) (p : List Noted) (c : Copy) : Type 0 where
  pub value : c.value ≡ value_of w p c.item
  pub version : c.version ≡ version p c.item

-- at each live site, a copy that isn't locked has them, or gets them by the Applies that are on their way to the site
abbrev pub CopiesBecomeCurrent : Workload → World → Type 0
CopiesBecomeCurrent w state =
    (k : ℕ) (s : SiteState) → IsLive (history state) state.servers.sites k s →
    AllByRecursion (λ (c : Copy). is_copy_locked (history state) (site (k + 1)) c.item ≡ false → IsCurrentIn w (history state) (after_all s c (link state.links (k + 2) 1))) s.copies

-- what is told of the world's servers: each copy that may be read has its item's final value and version
abbrev pub ToldCopiesAreCurrent : Workload → World → Type 0
ToldCopiesAreCurrent w state = Each (IsCurrent w (history state) (report w state.servers).finals) (report w state.servers).copies

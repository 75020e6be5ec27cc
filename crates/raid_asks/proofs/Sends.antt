-- What the sequencer's entries send is for sites, each in its session.
use Rattle.std.proofs.Common.{◌≡◌, ℕ, Bool, true, false, not, ◌&&◌, List, [], ◌∷◌, length, map, if◌then◌else◌, refl}
use Rattle.std.specs.Prelude.{filter, flat_map}
use Rattle.std.specs.List.{AllByRecursion}
use Rattle.raid_base.specs.declared.names.Txn.{Txn}
use Rattle.raid_base.specs.declared.names.Site.{Site}
use Rattle.raid_base.specs.declared.entry.Entry.{Entry}
use Rattle.raid_base.specs.declared.entry.Entry.TheVariants.{Read, Commit, Abort, Down, Up}
use Rattle.raid_base.specs.declared.entry.Noted.{Noted}
use Rattle.raid_base.specs.Names.{is_site, has_site}
use Rattle.raid_base.specs.Sites.{session}
use Rattle.raid_workload.specs.declared.workload.Workload.{Workload}
use Rattle.raid_workload.specs.Parts.{sites, home}
use Rattle.raid_legal.specs.Seen.{vector, is_up}
use Rattle.raid_message.specs.declared.letter.Message.{Message}
use Rattle.raid_message.specs.declared.letter.Message.TheVariants as letters
use Rattle.raid_steps.specs.State.{Out, to_site}
use Rattle.raid_steps.specs.Table.{is_count}
use Rattle.raid_steps.specs.Sequencer as rows
use Rattle.raid_sessions.proofs.Lists.{all_append}

module _ (w : Workload) where
  -- a fact of every such message holds of all that an entry sends
  module _ (P : Out → Type 0) (p : List Noted) (each : (s : Site) (m : Message) → is_count m ≡ false → P (to_site (vector w p) s m)) where
    notes_each : (m : Message) (ss : List Site) → is_count m ≡ false → AllByRecursion P (map (λ s. to_site (vector w p) s m) ss)
    notes_each m [] q = tt
    notes_each m (s ∷ ss) q = (each s m q, notes_each m ss q)

    one_if : (b : Bool) (out : Out) → P out → AllByRecursion P (if b then out ∷ [] else [])
    one_if true out q = (q, tt)
    one_if false out q = tt

    none_if : (b : Bool) (out : Out) → P out → AllByRecursion P (if b then [] else out ∷ [])
    none_if true out q = tt
    none_if false out q = (q, tt)

    commits_each : (t : Txn) (applied : List Site) (ss : List Site) → AllByRecursion P (flat_map (rows.commit_sends w p t applied) ss)
    commits_each t applied [] = tt
    commits_each t applied (s ∷ ss) =
        let apply : Out = to_site (vector w p) s (letters.Apply t (length p)) in
        let done : Out = to_site (vector w p) s (letters.Done t) in
        all_append P (rows.commit_sends w p t applied s) (flat_map (rows.commit_sends w p t applied) ss)
        (all_append P (if has_site applied s then apply ∷ [] else []) (if is_site s (home w t) && is_up w p s then done ∷ [] else [])
        (one_if (has_site applied s) apply (each s (letters.Apply t (length p)) refl)) (one_if (is_site s (home w t) && is_up w p s) done (each s (letters.Done t) refl)))
        (commits_each t applied ss)

    pub sends_each : (ask : ℕ) (e : Entry) → AllByRecursion P (rows.sends w p ask e)
    sends_each ask (Read t x s) =
        (each s (letters.ReadDo t ask x (home w t) (session (vector w p) (home w t))) refl, none_if (is_site s (home w t)) (to_site (vector w p) (home w t) (letters.Serving t ask s)) (each (home w t) (letters.Serving t ask s) refl))
    sends_each ask (Commit t request applied) = commits_each t applied (sites w)
    sends_each ask (Abort t cause act) = notes_each (rows.drop_of w t cause) (filter (is_up w p) (sites w)) refl
    sends_each ask (Down s) = notes_each (letters.DownNote s) (filter (is_up w p) (sites w)) refl
    sends_each ask (Up s n) = (each s (letters.Welcome (vector w p) (rows.next_number w p s)) refl, notes_each (letters.UpNote s n) (filter (λ r. is_up w p r && not (is_site s r)) (sites w)) refl)
    sends_each ask other = tt

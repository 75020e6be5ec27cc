-- Each step keeps the value of each copy, and of each copy on its way, the one that the Commit with its version gave.
use Rattle.std.proofs.Common.{◌≡◌, ◌≢◌, ◌⊎◌, inl, inr, ℕ, ℤ, zero, suc, ◌+◌, ◌-◌, ◌≤◌, Bool, true, false, List, [], ◌∷◌, length, map, Option, Some, None, if◌then◌else◌, arith, sym, subst, ap, ◌∙◌, refl}
use Rattle.std.specs.Prelude.{⊤, slice_get, slice_set}
use Rattle.std.specs.Option.{option_map_or}
use Rattle.std.specs.List.{AllByRecursion}
use Rattle.raid_base.specs.declared.names.Txn.{Txn}
use Rattle.raid_base.specs.declared.names.Item.{Item}
use Rattle.raid_base.specs.declared.entry.Noted.{Noted}
use Rattle.raid_base.specs.declared.entry.Entry.TheVariants.{Read, Wait}
use Rattle.raid_base.specs.Find.{first_of}
use Rattle.raid_base.specs.Names.{is_item}
use Rattle.raid_base.specs.Sites.{site}
use Rattle.raid_workload.specs.declared.workload.Workload.{Workload}
use Rattle.raid_rules.specs.History.{noted}
use Rattle.raid_message.specs.declared.letter.Message.{Message}
use Rattle.raid_message.specs.declared.letter.Message.TheVariants as letters
use Rattle.raid_message.specs.declared.letter.Letter.{Letter}
use Rattle.raid_steps.specs.State.{Out, Turn, Sequencer, opened, Copy, SiteState}
use Rattle.raid_steps.specs.Copies.{copy_of, renewed, staged_of}
use Rattle.raid_steps.specs.Sequencer.{so_far, place, hear_sequencer}
use Rattle.raid_steps.specs.Site.{hear_site}
use Rattle.raid_steps.specs.World.{World, link}
use Rattle.raid_sessions.proofs.Lists.{all_weaken, get_below, get_set, get_other, some_is}
use Rattle.raid_sessions.proofs.Mail.{same_or_not, moved}
use Rattle.raid_moves.specs.Moves.{Tells, Says}
use Rattle.raid_moves.proofs.Places.{all_found}
use Rattle.raid_letters.specs.Says.{NoteSays, was_applied}
use Rattle.raid_letters.proofs.Runs.{LetterSays, QueueSays}
use Rattle.raid_layers.proofs.Opening.{First, reads, waits, nothing, Chain, done, places, sends, Opens, hear_opens}
use Rattle.raid_layers.proofs.Tokens.{OnLinks, step_all}
use Rattle.raid_staged.specs.Agree.{PartsAgree}
use Rattle.raid_staged.proofs.Worlds.{Landed}
use Rattle.raid_values.specs.Values.{committed_value}
use Rattle.raid_values.proofs.Pushes.{GoesOn, goes_same, goes_further, goes_more}
use Rattle.raid_versions.proofs.SiteCopies.{same_item, found_item, set_in}
use Rattle.raid_versions.proofs.SiteParts.{Copied, keeps, applies, renews, step_copies}
use Rattle.raid_values.proofs.Rows.{Sent, step_sent}
use Rattle.raid_values.proofs.Written.{Applied, applied_here}

-- what holds of mapped elements
pub all_mapped : {X Y : Type 0} (P : X → Type 0) (Q : Y → Type 0) (f : X → Y) (xs : List X) → ((x : X) → P x → Q (f x)) → AllByRecursion P xs → AllByRecursion Q (map f xs)
all_mapped P Q f [] each a = tt
all_mapped P Q f (x ∷ xs) each a = (each x a.0, all_mapped P Q f xs each a.1)

module _ (w : Workload) where
  -- the sequencer's steps go on from the history that there was
  module _ (from : ℕ) (letter : Letter) where
    pub chain_goes : (a b : Turn Sequencer) → Chain w from letter a b → GoesOn w (so_far a) (so_far b)
    chain_goes a b done = goes_same w (so_far a)
    chain_goes a b (places ask e y rest) = goes_further w (so_far a) (so_far (place w ask a e)) (so_far b) (goes_more w a.state.history e) (chain_goes (place w ask a e) b rest)
    chain_goes a b (sends {next = next} outs same is other rest) = subst (λ h. GoesOn w (noted h) (so_far b)) same (chain_goes next b rest)

    pub first_goes : {a b : Turn Sequencer} → First w from letter a b → GoesOn w (so_far a) (so_far b)
    first_goes {a = a} (reads k t ask x s of is) = goes_more w a.state.history (Read t x s)
    first_goes {a = a} (waits k t request of is) = goes_more w a.state.history (Wait t request)
    first_goes {a = a} nothing = goes_same w (so_far a)

  pub step_goes : (state : Sequencer) (from : ℕ) (letter : Letter) → GoesOn w (noted state.history) (noted (hear_sequencer w state from letter).state.history)
  step_goes state from letter = go (hear_opens w from letter state from refl)
    where
      now : Turn Sequencer
      now = hear_sequencer w state from letter

      go : Opens w from letter (opened state) (hear_sequencer w state from letter) → GoesOn w (noted state.history) (noted (hear_sequencer w state from letter).state.history)
      go (first, (one, chain)) = goes_further w (noted state.history) (so_far first) (so_far now) (first_goes from letter one) (chain_goes from letter first now chain)

  -- a version that the history has, and the value that it has by it
  pub record IsOf (p : List Noted) (x : Item) (v : ℤ) (version : ℕ) : Type 0 where
    pub within : version ≤ length p
    pub value : v ≡ committed_value w p x version

  abbrev pub CopyOf : List Noted → Copy → Type 0
  CopyOf p c = IsOf p c.item c.value c.version

  abbrev pub MessageOf : List Noted → Message → Type 0
  MessageOf p (letters.CopyValue x v version) = IsOf p x v version
  MessageOf p other = ⊤

  -- of the letters those between sites alone matter
  abbrev pub LetterOf : List Noted → ℕ → ℕ → Letter → Type 0
  LetterOf p server (suc (suc j)) l = MessageOf p l.message
  LetterOf p server other l = ⊤

  pub record AllOf (p : List Noted) (sites : List SiteState) (links : List (List (List Letter))) : Type 0 where
    pub copies : (k : ℕ) (s : SiteState) → slice_get sites k ≡ Some s → AllByRecursion (CopyOf p) s.copies
    pub on_links : OnLinks (LetterOf p) links

  -- in a history that goes on from the one that there was
  later_of : (p q : List Noted) → GoesOn w p q → (x : Item) (v : ℤ) (version : ℕ) → IsOf p x v version → IsOf q x v version
  later_of p q on x v version h = record { within = (let a = h.within in let b = on.long in omega (arith, a, b)); value = h.value ∙ sym (on.values x version h.within) }

  later_message : (p q : List Noted) → GoesOn w p q → (m : Message) → MessageOf p m → MessageOf q m
  later_message p q on (letters.CopyValue x v version) h = later_of p q on x v version h
  later_message p q on other h = tt

  later_letter : (p q : List Noted) → GoesOn w p q → (server from : ℕ) (l : Letter) → LetterOf p server from l → LetterOf q server from l
  later_letter p q on server zero l h = tt
  later_letter p q on server (suc zero) l h = tt
  later_letter p q on server (suc (suc j)) l h = later_message p q on l.message h

  module _ (state : World) (landed : Landed w state) (agree : PartsAgree w state) (all : AllOf (noted state.servers.sequencer.history) state.servers.sites state.links) (from clock : ℕ) (letter : Letter) (rest : List Letter) where
    abbrev p : List Noted
    p = noted state.servers.sequencer.history

    none_sent : (outs : List Out) → AllByRecursion (λ (out : Out). ⊤) outs
    none_sent [] = tt
    none_sent (out ∷ outs) = (tt, none_sent outs)

    pub monitor_of : (outs : List Out) → link state.links 0 from ≡ letter ∷ rest → AllOf (noted state.servers.sequencer.history) state.servers.sites (moved state.links 0 from 0 clock rest outs)
    monitor_of outs front = record { copies = all.copies; on_links = step_all (LetterOf p) 0 from 0 clock letter rest outs state.links front (none_sent outs) all.on_links }

    pub sequencer_of : link state.links 1 from ≡ letter ∷ rest →
        AllOf (noted (hear_sequencer w state.servers.sequencer from letter).state.history) state.servers.sites (moved state.links 1 from 0 clock rest (hear_sequencer w state.servers.sequencer from letter).outs)
    sequencer_of front = record {
      copies = λ k s at. all_weaken (CopyOf p) (CopyOf q) s.copies (λ c h. later_of p q on c.item c.value c.version h) (all.copies k s at);
      on_links = step_all (LetterOf q) 1 from 0 clock letter rest now.outs state.links front (none_sent now.outs) (λ c d. all_weaken (LetterOf p c d) (LetterOf q c d) (link state.links c d) (later_letter p q on c d) (all.on_links c d));
    }
      where
        now : Turn Sequencer
        now = hear_sequencer w state.servers.sequencer from letter

        q : List Noted
        q = noted now.state.history

        on : GoesOn w p q
        on = step_goes state.servers.sequencer from letter

    -- a site
    module _ (j : ℕ) (own : SiteState) (at : slice_get state.servers.sites j ≡ Some own) (front : link state.links (suc (suc j)) from ≡ letter ∷ rest) where
      abbrev turn : Turn SiteState
      turn = hear_site w own from letter

      -- what is told to be applied was committed, and is to be applied here
      pub told_applied : (t : Txn) (number : ℕ) → Tells w own from letter (letters.Apply t number) → was_applied (noted state.servers.sequencer.history) t (site (j + 1)) number ≡ true
      told_applied t number m =
          let says = (subst (QueueSays w p (suc (suc j)) from) front (landed.says.says (suc (suc j)) from)).0 in
          subst (λ z. was_applied p t z number ≡ true) (ap site (let e : suc (suc j) - 1 ≡ j + 1 = omega arith in e))
          (subst (NoteSays w p (site (suc (suc j) - 1)) letter.to) m.is (subst (λ d. LetterSays w p (suc (suc j)) d letter) m.by says))

      pub told_part : (t : Txn) (number : ℕ) (ps : List (Item × ℤ)) → Tells w own from letter (letters.Apply t number) → staged_of own t ≡ Some ps → Applied w (noted state.servers.sequencer.history) (site (j + 1)) number ps
      told_part t number ps m has = applied_here w state agree j own at t number (told_applied t number m) ps has

      brought : (k : ℕ) (x : Item) (v : ℤ) (version : ℕ) → Says w own from letter k (letters.CopyValue x v version) → IsOf p x v version
      brought k x v version m = subst (MessageOf p) m.is (subst (λ d. LetterOf p (suc (suc j)) d letter) m.by (subst (AllByRecursion (LetterOf p (suc (suc j)) from)) front (all.on_links (suc (suc j)) from)).0)

      renewed_of : (number : ℕ) (ps : List (Item × ℤ)) → Applied w p (site (j + 1)) number ps → (c : Copy) → CopyOf p c → CopyOf p (renewed number ps c)
      renewed_of number ps applied c h = go (first_of c.item ps) refl
        where
          go : (o : Option ℤ) → first_of c.item ps ≡ o → CopyOf p (option_map_or (λ v. let d : Copy = record { item = c.item; value = v; version = number } in d) o c)
          go None q = h
          go (Some v) q = record { within = applied.within; value = sym (applied.values c.item v q).0 }

      set_of : (x : Item) (v : ℤ) (version : ℕ) → IsOf p x v version → (c : Copy) → CopyOf p c → CopyOf p (let d : Copy = if is_item x c.item then record { item = c.item; value = v; version = version } else c in d)
      set_of x v version new c h = go (is_item x c.item) refl
        where
          go : (b : Bool) → is_item x c.item ≡ b → CopyOf p (let d : Copy = if b then record { item = c.item; value = v; version = version } else c in d)
          go true q = subst (λ z. IsOf p z v version) (sym (same_item x c.item q)) new
          go false q = h

      copies_after : Copied w own from letter turn → AllByRecursion (CopyOf p) turn.state.copies
      copies_after (keeps same passes sent) = subst (AllByRecursion (CopyOf p)) (sym same) (all.copies j own at)
      copies_after (applies t number ps m has same sent) = subst (AllByRecursion (CopyOf p)) (sym same) (all_mapped (CopyOf p) (CopyOf p) (renewed number ps) own.copies (renewed_of number ps (told_part t number ps m has)) (all.copies j own at))
      copies_after (renews k x v version c m found most same sent) = subst (AllByRecursion (CopyOf p)) (sym same) (all_mapped (CopyOf p) (CopyOf p) (set_in x v version) own.copies (set_of x v version (brought k x v version m)) (all.copies j own at))

      pub own_copy : (x : Item) (c : Copy) → copy_of own x ≡ Some c → CopyOf p c × (c.item ≡ x)
      own_copy x c q = (all_found (CopyOf p) (λ (c : Copy). is_item x c.item) own.copies c (all.copies j own at) q, found_item own x c q)

      sent_of : (server to : ℕ) (m : Message) → Sent w own from letter server to m → MessageOf p m
      sent_of server to (letters.CopyValue x v version) h =
          let its = own_copy x h.copy h.found in
          subst (IsOf p x v) (sym h.number) (subst (λ z. IsOf p x z h.copy.version) (sym h.value) (subst (λ z. IsOf p z h.copy.value h.copy.version) its.1 its.0))
      sent_of server to other h = tt

      pub site_of : AllOf (noted state.servers.sequencer.history) (slice_set state.servers.sites j (hear_site w own from letter).state)
          (moved state.links (suc (suc j)) from (hear_site w own from letter).state.session clock rest (hear_site w own from letter).outs)
      site_of = record {
        copies = λ k s there. copies k s there (same_or_not k j);
        on_links = step_all (LetterOf p) (suc (suc j)) from turn.state.session clock letter rest turn.outs state.links front
            (all_weaken (λ (out : Out). Sent w own from letter out.0 out.1 out.2) (λ (out : Out). MessageOf p out.2) turn.outs (λ out h. sent_of out.0 out.1 out.2 h) (step_sent w own from letter (landed.says.homes j own at).ascend)) all.on_links;
      }
        where
          copies : (k : ℕ) (s : SiteState) → slice_get (slice_set state.servers.sites j (hear_site w own from letter).state) k ≡ Some s → (k ≡ j) ⊎ (k ≢ j) → AllByRecursion (CopyOf p) s.copies
          copies k s there (inl e) =
              let is : turn.state ≡ s = some_is turn.state s (sym (get_set state.servers.sites j turn.state (get_below state.servers.sites j own at)) ∙ ap (slice_get (slice_set state.servers.sites j turn.state)) (sym e) ∙ there) in
              subst (λ (z : SiteState). AllByRecursion (CopyOf p) z.copies) is (copies_after (step_copies w own from letter (landed.says.homes j own at).ascend))
          copies k s there (inr differ) = all.copies k s (sym (get_other state.servers.sites j k turn.state differ) ∙ there)

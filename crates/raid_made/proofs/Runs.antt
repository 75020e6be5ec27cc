-- What holds of every reached world: all letters on their way, all programs at the sites and all entries are made.
use Rattle.std.proofs.Common.{◌≡◌, ℕ, zero, suc, ◌+◌, ◌<◌, ◌==◌, Bool, true, false, ◌&&◌, ◌||◌, List, [], ◌∷◌, map, fold, Option, Some, None, sym, subst, refl}
use Rattle.std.specs.Prelude.{max, slice_get, slice_index, slice_index_or}
use Rattle.std.specs.List.{AllByRecursion, list_all}
use Rattle.std.proofs.lemmas.Bool.{and_parts, true≢false}
use Rattle.raid_base.specs.declared.names.Site.{Site}
use Rattle.raid_workload.specs.declared.workload.Workload.{Workload}
use Rattle.raid_workload.specs.Parts.{sites}
use Rattle.raid_message.specs.declared.letter.Message.{Message}
use Rattle.raid_message.specs.declared.letter.Message.TheVariants as letters
use Rattle.raid_message.specs.declared.letter.Letter.{Letter}
use Rattle.raid_message.specs.declared.letter.Pick.{Pick}
use Rattle.raid_steps.specs.State.{Out, SiteState}
use Rattle.raid_steps.specs.Table.{is_site_number, is_order, is_news, is_count, is_note, may_monitor, may_sequencer}
use Rattle.raid_steps.specs.World.{World, Servers, hear, hear_at, session_of, link, set_link, post, take_front, pick, run, open_world, first_site, first_links}
use Rattle.raid_steps.proofs.Addressed.{hear_right}
use Rattle.raid_known.proofs.Entries.{all_push}
use Rattle.raid_known.proofs.Reached.{Reached, all_set, all_at, all_empty, sender, front_reached, open_reached}
use Rattle.raid_made.specs.Made.{IsMadeMessage, SentMade, AreMade, EntriesMade}
use Rattle.raid_made.proofs.Placing.{sequencer_made}
use Rattle.raid_made.proofs.Sites.{site_made, site_sends}

module _ (w : Workload) where
  -- what the monitor and the sequencer may send asks for no commit, and tells no end
  order_made : (m : Message) → is_news m || is_order m ≡ true → IsMadeMessage w m
  order_made (letters.CommitAsk t request) q = absurd (true≢false (sym q))
  order_made (letters.EndAsk t cause reads) q = absurd (true≢false (sym q))
  order_made other q = tt

  note_made : (m : Message) → is_count m || is_note m ≡ true → IsMadeMessage w m
  note_made (letters.CommitAsk t request) q = absurd (true≢false (sym q))
  note_made (letters.EndAsk t cause reads) q = absurd (true≢false (sym q))
  note_made other q = tt

  one_of : (a b c d : Bool) → (a && b) || (c && d) ≡ true → b || d ≡ true
  one_of a true c d q = refl
  one_of true false true true q = refl
  one_of true false true false q = absurd (true≢false (sym q))
  one_of true false false d q = absurd (true≢false (sym q))
  one_of false false true true q = refl
  one_of false false true false q = absurd (true≢false (sym q))
  one_of false false false d q = absurd (true≢false (sym q))

  monitor_sends : (outs : List Out) → list_all (may_monitor w) outs ≡ true → SentMade w outs
  monitor_sends [] q = tt
  monitor_sends (out ∷ outs) q =
      let both = and_parts (may_monitor w out) (list_all (may_monitor w) outs) q in
      (order_made out.2 (one_of (out.0 == 1) (is_news out.2) (is_site_number w out.0) (is_order out.2) both.0), monitor_sends outs both.1)

  sequencer_sends : (outs : List Out) → list_all (may_sequencer w) outs ≡ true → SentMade w outs
  sequencer_sends [] q = tt
  sequencer_sends (out ∷ outs) q =
      let both = and_parts (may_sequencer w out) (list_all (may_sequencer w) outs) q in
      (note_made out.2 (one_of (out.0 == 0) (is_count out.2) (is_site_number w out.0) (is_note out.2) both.0), sequencer_sends outs both.1)

  -- the letters on their way
  abbrev Says : Letter → Type 0
  Says l = IsMadeMessage w l.message

  abbrev QueueMade : List Letter → Type 0
  QueueMade queue = AllByRecursion Says queue

  abbrev RowMade : List (List Letter) → Type 0
  RowMade row = AllByRecursion QueueMade row

  abbrev LinksMade : List (List (List Letter)) → Type 0
  LinksMade links = AllByRecursion RowMade links

  link_made : (links : List (List (List Letter))) (a b : ℕ) → LinksMade links → QueueMade (link links a b)
  link_made links a b h = all_at QueueMade (slice_index_or links a []) b [] (all_at RowMade links a [] h tt) tt

  set_made : (links : List (List (List Letter))) (a b : ℕ) (queue : List Letter) → LinksMade links → QueueMade queue → LinksMade (set_link links a b queue)
  set_made links a b queue h q =
      all_set RowMade links a _ h (all_set QueueMade (slice_index_or links a []) b queue (all_at RowMade links a [] h tt) q)

  posts_made : (server session clock : ℕ) (outs : List Out) (links : List (List (List Letter))) → SentMade w outs → LinksMade links → LinksMade (fold (post server session clock) links outs)
  posts_made server session clock [] links a h = h
  posts_made server session clock (out ∷ outs) links a h =
      posts_made server session clock outs (post server session clock links out) a.1
      (set_made links out.0 server _ h (all_push Says (link links out.0 server) (record { clock = clock; from = session; to = out.1; message = out.2 }) (link_made links out.0 server h) a.0))

  -- the servers
  abbrev SiteMade : SiteState → Type 0
  SiteMade state = AreMade w state.running

  record ServersMade (s : Servers) : Type 0 where
    entries : EntriesMade w s.sequencer.history
    sites : AllByRecursion SiteMade s.sites

  site_there : (states : List SiteState) (k : ℕ) (state : SiteState) → AllByRecursion SiteMade states → slice_get states k ≡ Some state → SiteMade state
  site_there [] k state a q = absurd (cc q)
  site_there (s ∷ ss) zero state a q = let same : s ≡ state = cc q in subst SiteMade same a.0
  site_there (s ∷ ss) (suc k) state a q = site_there ss k state a.1 q

  at_made : (s : Servers) (k from : ℕ) (l : Letter) (o : Option SiteState) → slice_get s.sites k ≡ o → ServersMade s → ServersMade (hear_at w s k from l o).0
  at_made s k from l None q h = h
  at_made s k from l (Some state) q h = record {
    entries = h.entries;
    sites = all_set SiteMade s.sites k _ h.sites (site_made w state from l (site_there s.sites k state h.sites q));
  }

  at_sends : (s : Servers) (k from : ℕ) (l : Letter) (o : Option SiteState) → slice_get s.sites k ≡ o → ServersMade s → SentMade w (hear_at w s k from l o).1
  at_sends s k from l None q h = tt
  at_sends s k from l (Some state) q h = site_sends w state from l (site_there s.sites k state h.sites q)

  hear_made : (s : Servers) (server from : ℕ) (l : Letter) → Says l → ServersMade s → ServersMade (hear w s server from l).0
  hear_made s zero from l m h = record { entries = h.entries; sites = h.sites }
  hear_made s (suc zero) from l m h = record { entries = sequencer_made w s.sequencer from l h.entries m; sites = h.sites }
  hear_made s (suc (suc k)) from l m h = at_made s k from l (slice_get s.sites k) refl h

  hear_sends : (s : Servers) (server from : ℕ) (l : Letter) → from < w.sites + 2 → ServersMade s → SentMade w (hear w s server from l).1
  hear_sends s zero from l below h = monitor_sends (hear w s zero from l).1 (hear_right w s zero from l below)
  hear_sends s (suc zero) from l below h = sequencer_sends (hear w s (suc zero) from l).1 (hear_right w s (suc zero) from l below)
  hear_sends s (suc (suc k)) from l below h = at_sends s k from l (slice_get s.sites k) refl h

  -- the worlds
  record WorldMade (s : World) : Type 0 where
    reached : Reached w s
    letters : LinksMade s.links
    servers : ServersMade s.servers

  front_made : (s : World) (server from : ℕ) (queue : List Letter) → link s.links server from ≡ queue → QueueMade queue → WorldMade s → WorldMade (take_front w s server from queue)
  front_made s server from [] q a r = r
  front_made s server from (l ∷ rest) q a r = record {
    reached = front_reached w s server from (l ∷ rest) q r.reached;
    letters = posts_made server (session_of (hear w s.servers server from l).0 server) (1 + max (slice_index s.clocks server) l.clock) (hear w s.servers server from l).1 (set_link s.links server from rest)
        (hear_sends s.servers server from l (sender w s.links server from l rest r.reached.narrow q) r.servers) (set_made s.links server from rest r.letters a.1);
    servers = hear_made s.servers server from l a.0 r.servers;
  }

  picks_made : (s : World) (ps : List Pick) → WorldMade s → WorldMade (fold (pick w) s ps)
  picks_made s [] r = r
  picks_made s (p ∷ ps) r = picks_made (pick w s p) ps (front_made s p.server p.from (link s.links p.server p.from) refl (link_made s.links p.server p.from r.letters) r)

  -- the start
  rows_made : (ss : List Site) → LinksMade (map (first_links w) ss)
  rows_made [] = tt
  rows_made (s ∷ ss) = ((tt, ((tt, tt), all_empty QueueMade w.sites [] tt)), rows_made ss)

  sites_made : (ss : List Site) → AllByRecursion SiteMade (map (first_site w) ss)
  sites_made [] = tt
  sites_made (s ∷ ss) = (tt, sites_made ss)

  open_made : WorldMade (open_world w)
  open_made = record {
    reached = open_reached w;
    letters = (all_empty QueueMade (w.sites + 2) [] tt, (all_empty QueueMade (w.sites + 2) [] tt, rows_made (sites w)));
    servers = record { entries = tt; sites = sites_made (sites w) };
  }

  pub runs_made : (schedule : List Pick) → EntriesMade w (run w schedule).servers.sequencer.history
  runs_made schedule = (picks_made (open_world w) schedule open_made).servers.entries

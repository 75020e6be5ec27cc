-- Programs, as they are written, are read again.
use Rattle.std.proofs.Common.{◌≡◌, ℕ, ◌+◌, ◌<◌, ◌≤◌, true, false, ◌&&◌, leb, ltb, List, [], ◌∷◌, ◌++◌, length, map, Ok, refl, sym, ◌∙◌, arith, subst, append_assoc, codes}
use Rattle.std.specs.List.{flat_map, list_all}
use Rattle.std.proofs.lemmas.Bool.{lt-leb, leb-true, ltb-true, and_parts}
use Rattle.std.proofs.lemmas.List.{append-nil, length-append}
use Rattle.std.proofs.lemmas.List.Folds.{list_all-append}
use Rattle.raid_base.specs.declared.names.Site.{Site}
use Rattle.raid_program.specs.declared.program.Statement.{Statement}
use Rattle.raid_program.specs.declared.program.Statement.TheVariants as statements
use Rattle.raid_program.specs.Form.{is_expr}
use Rattle.raid_scan.specs.Words.{Word, is_plain}
use Rattle.raid_tokens.specs.declared.fault.Fault.TheVariants as faults
use Rattle.raid_tokens.specs.Words.{end_at}
use Rattle.raid_tokens.specs.Spelled.{register_word}
use Rattle.raid_tokens.proofs.Written.{number_plain, register_plain, name_plain}
use Rattle.raid_tokens.proofs.Again.{keyword_again, number_at_again, name_at_again, register_at_again}
use Rattle.raid_workload.specs.Rules.{is_site_of, is_expr_of_i64, is_statement, is_homed}
use Rattle.raid_workload.specs.declared.workload.ItemLine.{ItemLine}
use Rattle.raid_workload.specs.declared.workload.Homed.{Homed}
use Rattle.raid_text.specs.declared.state.State.{State}
use Rattle.raid_text.specs.declared.state.Place.TheVariants as places
use Rattle.raid_text.specs.Body.{program_line, end_line}
use Rattle.raid_text.specs.Names.{names_of}
use Rattle.raid_text.specs.Statements.{item, item_at, ends, read_at, write_at, stop_if_at, statement_line}
use Rattle.raid_text.specs.Spelling.{expr_words, name_of, statement_words, program_words, program_lines}
use Rattle.raid_text.specs.Used.{used_line, line_after}
use Rattle.raid_text.proofs.Exprs.{IsExpr, expr_fits, expr_alone, expr_compared, expr_plain}
use Rattle.raid_text.proofs.Goes.{Goes, goes_none, goes_line, goes_then}
use Rattle.raid_text.proofs.Holders.{within_parts}
use Rattle.raid_text.proofs.Items.{Names}

abbrev at_program : State → Site → List Statement → State
at_program base home program = record base { place = places.Program; home = home; program = program }

-- the items that there are have their names
abbrev pub AreNamed : List ItemLine → Type 0
AreNamed items = (k : ℕ) → k < length items → Names items k

item_again : (items : List ItemLine) (k : ℕ) (words : List Word) → Names items k → item_at (names_of items) (name_of items (item k) ∷ words) ≡ Ok (item k, words)
unfolding item_at
item_again items k words n = rw (name_at_again (name_of items (item k)) words n.form, n.place) refl

-- ---- statements

abbrev IsStatement : ℕ → Statement → Type 0
IsStatement items (statements.Read x reg) = (x.0 < items) × (reg < 16)
IsStatement items (statements.Write x e) = (x.0 < items) × IsExpr e
IsStatement items (statements.StopIf left right) = IsExpr left × IsExpr right

statement_fits : (items : ℕ) (s : Statement) → is_statement items s ≡ true → IsStatement items s
statement_fits items (statements.Read x reg) h =
    let a = and_parts (ltb reg 16 && ltb x.0 items) true h in
    let b = and_parts (ltb reg 16) (ltb x.0 items) a.0 in
    (ltb-true _ _ b.1, ltb-true _ _ b.0)
statement_fits items (statements.Write x e) h =
    let a = and_parts (is_expr e && ltb x.0 items) (is_expr_of_i64 e) h in
    let b = and_parts (is_expr e) (ltb x.0 items) a.0 in
    (ltb-true _ _ b.1, expr_fits e b.0 a.1)
statement_fits items (statements.StopIf left right) h =
    let a = and_parts (is_expr left && is_expr right && true) (is_expr_of_i64 left && is_expr_of_i64 right) h in
    let b = and_parts (is_expr left && is_expr right) true a.0 in
    let c = and_parts (is_expr left) (is_expr right) b.0 in
    let d = and_parts (is_expr_of_i64 left) (is_expr_of_i64 right) a.1 in
    (expr_fits left c.0 d.0, expr_fits right c.1 d.1)

statement_again : (base : State) (home : Site) (program : List Statement) (s : Statement) → AreNamed base.items → IsStatement (length base.items) s → length program < 32 →
    Goes (at_program base home program) (statement_words base.items s ∷ []) (at_program base home (program ++ s ∷ []))
unfolding line_after used_line statement_line read_at write_at stop_if_at end_at ends
statement_again base home program (statements.Read x reg) named is few =
    let room : leb 32 (length program) ≡ false = lt-leb _ _ few in
    let n = named x.0 is.0 in
    goes_line _ _ _
    (rw (name_plain (name_of base.items x) n.form, register_plain reg is.1) refl)
    (rw (room, item_again base.items x.0 (register_word reg ∷ []) n, register_at_again reg [] is.1) refl)
statement_again base home program (statements.Write x e) named is few =
    let room : leb 32 (length program) ≡ false = lt-leb _ _ few in
    let n = named x.0 is.0 in
    goes_line _ _ _
    (rw (name_plain (name_of base.items x) n.form) (expr_plain e is.1))
    (rw (room, item_again base.items x.0 (expr_words e) n, expr_alone e is.1) refl)
statement_again base home program (statements.StopIf left right) named is few =
    let room : leb 32 (length program) ≡ false = lt-leb _ _ few in
    goes_line _ _ _
    (list_all-append is_plain (expr_words left) (codes "<" ∷ expr_words right) ∙ rw (expr_plain left is.0, expr_plain right is.1) refl)
    (rw (room, keyword_again (codes "if") (expr_words left ++ (codes "<" ∷ expr_words right)), expr_compared left (expr_words right) is.0, keyword_again (codes "<") (expr_words right), expr_alone right is.1) refl)

goes_statements : (base : State) (home : Site) (before program : List Statement) → AreNamed base.items → list_all (is_statement (length base.items)) program ≡ true → length before + length program ≤ 32 →
    Goes (at_program base home before) (map (statement_words base.items) program) (at_program base home (before ++ program))
goes_statements base home before [] named are few = subst (λ (xs : List Statement). Goes (at_program base home before) [] (at_program base home xs)) (sym (append-nil before)) (goes_none (at_program base home before))
goes_statements base home before (s ∷ program) named are few =
    let p = and_parts (is_statement (length base.items) s) (list_all (is_statement (length base.items)) program) are in
    let one = statement_again base home before s named (statement_fits (length base.items) s p.0) (omega arith) in
    let others = goes_statements base home (before ++ s ∷ []) program named p.1 (omega (arith, length-append before (s ∷ []))) in
    subst (λ (xs : List Statement). Goes (at_program base home before) (map (statement_words base.items) (s ∷ program)) (at_program base home xs)) (append_assoc before (s ∷ []) program)
    (goes_then (at_program base home before) (statement_words base.items s ∷ []) (at_program base home (before ++ s ∷ [])) (map (statement_words base.items) program) (at_program base home ((before ++ s ∷ []) ++ program)) one others)

-- ---- whole programs

abbrev pub body_of : State → List Homed → Site → State
body_of base programs home = record base { place = places.Body; programs = programs; home = home; program = [] }

program_again : (base : State) (programs : List Homed) (before : Site) (homed : Homed) → AreNamed base.items → is_homed base.sites (length base.items) homed ≡ true → base.sites ≤ 8 → length programs < 2000 →
    Goes (body_of base programs before) (program_lines base.items homed) (body_of base (programs ++ homed ∷ []) homed.home)
unfolding line_after used_line program_line end_line end_at
program_again base programs before homed named is small few =
    let room : leb 2000 (length programs) ≡ false = lt-leb _ _ few in
    let a = and_parts (is_site_of base.sites homed.home && leb (length homed.program) 32) (list_all (is_statement (length base.items)) homed.program) is in
    let b = and_parts (is_site_of base.sites homed.home) (leb (length homed.program) 32) a.0 in
    let h = within_parts 1 base.sites homed.home.0 b.0 in
    let start : State = record base { programs = programs } in
    let first : Goes (body_of base programs before) (program_words homed.home ∷ []) (at_program start homed.home []) =
    goes_line _ _ _ (rw (number_plain homed.home.0 (omega (arith, h.1, small))) refl) (rw (room, number_at_again 1 base.sites faults.Site homed.home.0 [] h.0 h.1 (omega (arith, h.1, small))) refl) in
    let inner : Goes (at_program start homed.home []) (map (statement_words base.items) homed.program) (at_program start homed.home homed.program) =
    goes_statements start homed.home [] homed.program named a.1 (omega (arith, leb-true _ _ b.1)) in
    let last : Goes (at_program start homed.home homed.program) ((codes "end" ∷ []) ∷ []) (body_of base (programs ++ homed ∷ []) homed.home) = goes_line _ _ _ refl refl in
    goes_then _ _ _ _ _ first (goes_then _ _ _ _ _ inner last)

abbrev pub last_home : Site → List Homed → Site
last_home home [] = home
last_home home (homed ∷ programs) = last_home homed.home programs

pub goes_programs : (base : State) (before : List Homed) (home : Site) (programs : List Homed) → AreNamed base.items → list_all (is_homed base.sites (length base.items)) programs ≡ true → base.sites ≤ 8 → length before + length programs ≤ 2000 →
    Goes (body_of base before home) (flat_map (program_lines base.items) programs) (body_of base (before ++ programs) (last_home home programs))
goes_programs base before home [] named are small few = subst (λ (xs : List Homed). Goes (body_of base before home) [] (body_of base xs home)) (sym (append-nil before)) (goes_none (body_of base before home))
goes_programs base before home (homed ∷ programs) named are small few =
    let p = and_parts (is_homed base.sites (length base.items) homed) (list_all (is_homed base.sites (length base.items)) programs) are in
    let one = program_again base before home homed named p.0 small (omega arith) in
    let others = goes_programs base (before ++ homed ∷ []) homed.home programs named p.1 small (omega (arith, length-append before (homed ∷ []))) in
    let h = last_home homed.home programs in
    subst (λ (xs : List Homed). Goes (body_of base before home) (flat_map (program_lines base.items) (homed ∷ programs)) (body_of base xs h)) (append_assoc before (homed ∷ []) programs)
    (goes_then (body_of base before home) (program_lines base.items homed) (body_of base (before ++ homed ∷ []) homed.home) (flat_map (program_lines base.items) programs) (body_of base ((before ++ homed ∷ []) ++ programs) h) one others)

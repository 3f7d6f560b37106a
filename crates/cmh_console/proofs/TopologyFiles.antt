-- What a topology file says, from its parts.
use Rattle.std.proofs.Common.{◌≡◌, ℕ, Bool, true, false, true≢false, ◌==◌, List, [], ◌∷◌, Option, None, Some, codes, if◌then◌else◌, ap, refl, subst, sym, ◌∙◌, inl, inr}
use Rattle.std.specs.Prelude.{option_and_then}
use Rattle.std.specs.List.{AllByRecursion, IsDistinct, list_any}
use Rattle.std.specs.Option.{option_zip}
use Rattle.std.proofs.lemmas.Bool.{cases_eq, ne_eqb, or_from, or_parts}
use Rattle.serde_json.specs.Data.{Data}
use Rattle.cmh_frames.specs.declared.edition.Edition.{Edition}
use Rattle.cmh_frames.specs.declared.edition.Edition.TheVariants.{One, Two}
use Rattle.cmh_frames.specs.Edition.{number_of}
use Rattle.cmh_frames.specs.Rows.{Row}
use Rattle.cmh_frames.proofs.Apart.{eqb_comm}
use Rattle.cmh_frames.specs.Topology.{Topology, IsTopologyOf}
use Rattle.cmh_console.specs.TopologyFile.{Says, SaysNoPorts, SaysNoRows, SaysPorts, SaysTopology, each_in, number_in, port_in, row_of}
use Rattle.cmh_console.specs.TopologyFile3.{SaysNoWorld, SaysWorld, number_of_world}
use Rattle.cmh_console.specs.TopologyParts.{IsJsonOf, edition_numbered, has_repeats, is_edition3, is_three, topology_in, world_in}

some_same : {X : Type 0} (x y : X) → Some x ≡ Some y → x ≡ y
some_same x y h = cc

none_some : {X : Type 0} (x : X) → None ≡ Some x → ⊥
none_some x h = cc

zip_said : {X Y : Type 0} (a : Option X) (b : Option Y) (x : X) (y : Y) → option_zip a b ≡ Some (x, y) → (a ≡ Some x) × (b ≡ Some y)
zip_said None b x y is = absurd (none_some (x, y) is)
zip_said (Some p) None x y is = absurd (none_some (x, y) is)
zip_said {X} {Y} (Some p) (Some q) x y is =
    let same = some_same (p, q) (x, y) is in
    (ap (λ (z : X × Y). Some z.0) same, ap (λ (z : X × Y). Some z.1) same)

-- ---- the edition

numbered : (n : ℕ) (e : Edition) → edition_numbered n ≡ Some e → n ≡ number_of e
numbered n e is = elim (cases_eq n 1) [
  | inl one ↦ one ∙ ap number_of (some_same One e (sym (ap edition_numbered one) ∙ is))
  | inr far ↦ elim (cases_eq n 2) [
    | inl two ↦ two ∙ ap number_of (some_same Two e (sym (ap edition_numbered two) ∙ is))
    | inr other ↦
        let first : edition_numbered n ≡ (if n == 2 then Some Two else None) =
        ap (λ (b : Bool). if b then Some One else (if n == 2 then Some Two else None)) (ne_eqb n 1 far) in
        let second : (if n == 2 then Some Two else None) ≡ None = ap (λ (b : Bool). if b then Some Two else None) (ne_eqb n 2 other) in
        absurd (none_some e (sym (first ∙ second) ∙ is))
  ]
]

edition_said : (o : Option ℕ) (e : Edition) → option_and_then edition_numbered o ≡ Some e → o ≡ Some (number_of e)
edition_said None e is = absurd (none_some e is)
edition_said (Some n) e is = ap Some (numbered n e is)

edition_back : (e : Edition) → edition_numbered (number_of e) ≡ Some e
edition_back One = refl
edition_back Two = refl

-- ---- the rows

pub says_rows : (bytes : List ℕ) (d : Data) (e : Edition) (rows : List Row) → IsJsonOf bytes d → topology_in d ≡ Some (e, rows) → Says bytes e rows
says_rows bytes d e rows json is =
    let both = zip_said (option_and_then edition_numbered (number_in (codes "edition") d)) (each_in (codes "sites") row_of d) e rows is in
    record { value = d; json = json; edition_is = edition_said (number_in (codes "edition") d) e both.0; rows_are = both.1 }

pub no_rows : (bytes : List ℕ) (d : Data) → IsJsonOf bytes d → topology_in d ≡ None → SaysNoRows bytes
no_rows bytes d json none = λ e rows says.
    let same : d ≡ says.value = some_same d says.value (sym json.1 ∙ says.json.1) in
    let found : topology_in says.value ≡ Some (e, rows) =
    ap (λ (o : Option ℕ). option_zip (option_and_then edition_numbered o) (each_in (codes "sites") row_of says.value)) says.edition_is
    ∙ ap (λ (o : Option (List Row)). option_zip (edition_numbered (number_of e)) o) says.rows_are
    ∙ ap (λ (o : Option Edition). option_zip o (Some rows)) (edition_back e) in
    none_some (e, rows) (sym none ∙ ap topology_in same ∙ found)

pub no_json : (bytes : List ℕ) → ((value : Data) → IsJsonOf bytes value → ⊥) → SaysNoRows bytes
no_json bytes none = λ e rows says. none says.value says.json

-- the topology that is made of them
pub says_topology : (bytes : List ℕ) (e : Edition) (rows : List Row) (t : Topology) → Says bytes e rows → IsTopologyOf e rows t → SaysTopology bytes t
says_topology bytes e rows t says is = (
  rows,
  subst (λ (d : Edition). Says bytes d rows) (sym is.edition_is) says,
  subst (λ (d : Edition). IsTopologyOf d rows t) (sym is.edition_is) is,
)

-- ---- the ports

fresh : (n : ℕ) (ns : List ℕ) → list_any (λ m. m == n) ns ≡ false → AllByRecursion (λ m. (n == m) ≡ false) ns
fresh n [] none = tt
fresh n (m ∷ ns) none =
    let parts = or_parts (m == n) (list_any (λ k. k == n) ns) none in
    (eqb_comm n m ∙ parts.0, fresh n ns parts.1)

none_again : (n : ℕ) (ns : List ℕ) → AllByRecursion (λ m. (n == m) ≡ false) ns → list_any (λ m. m == n) ns ≡ false
none_again n [] all = refl
none_again n (m ∷ ns) all = or_from (m == n) (list_any (λ k. k == n) ns) (eqb_comm m n ∙ all.0) (none_again n ns all.1)

apart : (ns : List ℕ) → has_repeats ns ≡ false → IsDistinct ◌==◌ ns
unfolding IsDistinct
apart [] none = tt
apart (n ∷ ns) none =
    let parts = or_parts (list_any (λ m. m == n) ns) (has_repeats ns) none in
    (fresh n ns parts.0, apart ns parts.1)

none_repeats : (ns : List ℕ) → IsDistinct ◌==◌ ns → has_repeats ns ≡ false
unfolding IsDistinct
none_repeats [] distinct = refl
none_repeats (n ∷ ns) distinct =
    or_from (list_any (λ m. m == n) ns) (has_repeats ns) (none_again n ns distinct.0) (none_repeats ns distinct.1)

pub says_ports : (bytes : List ℕ) (d : Data) (ports : List ℕ) → IsJsonOf bytes d → each_in (codes "sites") port_in d ≡ Some ports
    → has_repeats ports ≡ false → SaysPorts bytes ports
says_ports bytes d ports json is none = record { value = d; json = json; ports_are = is; apart = apart ports none }

pub no_ports_without_rows : (bytes : List ℕ) → SaysNoRows bytes → SaysNoPorts bytes
no_ports_without_rows bytes none = λ e rows ports says of. none e rows says

pub no_ports : (bytes : List ℕ) (d : Data) → IsJsonOf bytes d → each_in (codes "sites") port_in d ≡ None → SaysNoPorts bytes
no_ports bytes d json none = λ e rows ports says of.
    let same : d ≡ of.value = some_same d of.value (sym json.1 ∙ of.json.1) in
    none_some ports (sym none ∙ ap (each_in (codes "sites") port_in) same ∙ of.ports_are)

pub no_ports_apart : (bytes : List ℕ) (d : Data) (ports : List ℕ) → IsJsonOf bytes d → each_in (codes "sites") port_in d ≡ Some ports
    → has_repeats ports ≡ true → SaysNoPorts bytes
no_ports_apart bytes d ports json is repeats = λ e rows others says of.
    let same : d ≡ of.value = some_same d of.value (sym json.1 ∙ of.json.1) in
    let ports_same : ports ≡ others = some_same ports others (sym is ∙ ap (each_in (codes "sites") port_in) same ∙ of.ports_are) in
    true≢false (sym repeats ∙ ap has_repeats ports_same ∙ none_repeats others of.apart)

-- ---- edition 3

three : (o : Option ℕ) → is_three o ≡ true → o ≡ Some 3
three None is = absurd (true≢false (sym is))
three (Some n) is = elim (cases_eq n 3) [
  | inl same ↦ ap Some same
  | inr far ↦ absurd (true≢false (sym is ∙ ne_eqb n 3 far))
]

if_said : {X : Type 0} (b : Bool) (o : Option X) (x : X) → (if b then o else None) ≡ Some x → (b ≡ true) × (o ≡ Some x)
if_said true o x is = (refl, is)
if_said false o x is = absurd (none_some x is)

pub says_world : (bytes : List ℕ) (d : Data) (world : List ℕ) (rows : List Row) → IsJsonOf bytes d → world_in d ≡ Some (world, rows)
    → SaysWorld bytes world rows
says_world bytes d world rows json is =
    let said = if_said (is_edition3 d) (option_zip (number_of_world d) (each_in (codes "sites") row_of d)) (world, rows) is in
    let both = zip_said (number_of_world d) (each_in (codes "sites") row_of d) world rows said.1 in
    record {
      value = d;
      json = json;
      edition_is = three (number_in (codes "edition") d) said.0;
      world_is = both.0;
      rows_are = both.1;
    }

pub no_world : (bytes : List ℕ) (d : Data) → IsJsonOf bytes d → world_in d ≡ None → SaysNoWorld bytes
no_world bytes d json none = λ world rows says.
    let same : d ≡ says.value = some_same d says.value (sym json.1 ∙ says.json.1) in
    let found : world_in says.value ≡ Some (world, rows) =
    ap (λ (o : Option ℕ). if is_three o then option_zip (number_of_world says.value) (each_in (codes "sites") row_of says.value) else None)
    says.edition_is
    ∙ ap (λ (o : Option (List ℕ)). option_zip o (each_in (codes "sites") row_of says.value)) says.world_is
    ∙ ap (λ (o : Option (List Row)). option_zip (Some world) o) says.rows_are in
    none_some (world, rows) (sym none ∙ ap world_in same ∙ found)

pub no_json_of_world : (bytes : List ℕ) → ((value : Data) → IsJsonOf bytes value → ⊥) → SaysNoWorld bytes
no_json_of_world bytes none = λ world rows says. none says.value says.json

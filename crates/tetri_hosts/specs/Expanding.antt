-- Lists of hosts, as n[1-3,07-09],m5,rack[1-2]node[1-4]: commas outside of brackets part hosts, a bracket stands for each of its parts in turn.
use Rattle.std.specs.Prelude.{ℕ, ◌+◌, ◌-◌, ◌*◌, ◌==◌, ◌||◌, Bool, true, false, not, nat_le, nat_lt, List, [], ◌∷◌, ◌++◌, fold, length, map, replicate, decimal, Option, Some, None, is_some, is_none, Result, Ok, Err, if◌then◌else◌}
use Rattle.std.specs.List.{range_with_len}
use Rattle.tetri_cluster.specs.Names.{is_name}
use Rattle.tetri_io.specs.Numbers.{digits_below}
use Rattle.tetri_io.specs.Words.{parts_at}
use Rattle.tetri_hosts.specs.declared.expansion.Expansion.{Expansion}
use Rattle.tetri_hosts.specs.declared.expansion.TheConstants.{NUMBERS}
use Rattle.tetri_hosts.specs.declared.hosts.HostsFault.{HostsFault}
use Rattle.tetri_hosts.specs.declared.hosts.HostsFault.TheVariants.{NotHosts, TooMany}

-- ---- what a part of a bracket stands for
abbrev pub zeros : ℕ → List ℕ
zeros count = replicate count 48

-- a number in so many digits, or in more
unfoldable pub padded : ℕ → ℕ → List ℕ
padded width number = zeros (width - length (decimal number)) ++ decimal number

-- so many numbers from one on
abbrev pub texts_between : ℕ → ℕ → ℕ → List (List ℕ)
texts_between width first count = map (λ k. padded width (first + k)) (range_with_len 0 count)

abbrev pub numbers_between : ℕ → ℕ → Option ℕ → Option ℕ → Result (List (List ℕ)) HostsFault
numbers_between most width None high = Err NotHosts
numbers_between most width (Some low) None = Err NotHosts
numbers_between most width (Some low) (Some high) =
    if nat_lt high low then Err NotHosts else (if nat_le most (high - low) then Err TooMany else Ok (texts_between width low (high - low + 1)))

-- the numbers from one to another, in as many digits as the first has
abbrev pub range_texts : ℕ → List ℕ → List ℕ → Result (List (List ℕ)) HostsFault
range_texts most first last = numbers_between most (length first) (digits_below NUMBERS first) (digits_below NUMBERS last)

-- digits, as they stand
abbrev pub one_text : List ℕ → Result (List (List ℕ)) HostsFault
one_text digits = if is_none (digits_below NUMBERS digits) then Err NotHosts else Ok (digits ∷ [])

abbrev pub ends_texts : ℕ → List (List ℕ) → Result (List (List ℕ)) HostsFault
ends_texts most [] = Err NotHosts
ends_texts most (digits ∷ []) = one_text digits
ends_texts most (first ∷ last ∷ []) = range_texts most first last
ends_texts most (first ∷ last ∷ other ∷ more) = Err NotHosts

-- digits, or two numbers with a - between
abbrev pub part_texts : ℕ → List ℕ → Result (List (List ℕ)) HostsFault
part_texts most part = ends_texts most (parts_at 45 part)

-- ---- each of these before each of those
abbrev pub with_back : List ℕ → List (List ℕ) → List ℕ → List (List ℕ)
with_back front all back = all ++ (front ++ back) ∷ []

abbrev pub with_front : List (List ℕ) → List (List ℕ) → List ℕ → List (List ℕ)
with_front backs all front = fold (with_back front) all backs

abbrev pub joined : List (List ℕ) → List (List ℕ) → List (List ℕ)
joined fronts backs = fold (with_front backs) [] fronts

-- ---- a list, byte by byte
abbrev pub nothing_read : Expansion
nothing_read = record { whole = []; fronts = [] ∷ []; texts = []; tail = []; inside = false; fault = None }

abbrev pub wrong : Expansion → HostsFault → Expansion
wrong e fault = record e { fault = Some fault }

-- texts behind all fronts, at most so many
abbrev pub fronts_joined : ℕ → Expansion → List (List ℕ) → Expansion
fronts_joined most e backs = if nat_le (length e.fronts * length backs) most then record e { fronts = joined e.fronts backs } else wrong e TooMany

-- the bytes behind the last mark, behind all fronts
abbrev pub text_ended : ℕ → Expansion → Expansion
text_ended most e = fronts_joined most (record e { tail = [] }) (e.tail ∷ [])

-- these texts with those of the bracket, at most so many
abbrev pub texts_added : ℕ → Expansion → List (List ℕ) → Expansion
texts_added most e texts = if nat_lt (most - length e.texts) (length texts) then wrong e TooMany else record e { texts = e.texts ++ texts }

abbrev pub with_texts : ℕ → Expansion → Result (List (List ℕ)) HostsFault → Expansion
with_texts most e (Ok texts) = texts_added most e texts
with_texts most e (Err fault) = wrong e fault

-- the bytes behind the last mark, as a part of a bracket
abbrev pub part_ended : ℕ → Expansion → Expansion
part_ended most e = with_texts most (record e { tail = [] }) (part_texts most e.tail)

abbrev pub bracket_closed : ℕ → Expansion → Expansion
bracket_closed most e = fronts_joined most (record e { texts = []; inside = false }) e.texts

-- a host that is whole, if it is a name
abbrev pub with_host : Expansion → List ℕ → Expansion
with_host e host = if is_some e.fault then e else (if is_name host then record e { whole = e.whole ++ host ∷ [] } else wrong e NotHosts)

-- the fronts are hosts that are whole, at most so many
abbrev pub hosts_ended : ℕ → Expansion → Expansion
hosts_ended most e = if nat_lt (most - length e.whole) (length e.fronts) then wrong e TooMany else fold with_host (record e { fronts = [] ∷ [] }) e.fronts

abbrev pub byte_kept : Expansion → ℕ → Expansion
byte_kept e byte = record e { tail = e.tail ++ byte ∷ [] }

abbrev pub unless_wrong : (Expansion → Expansion) → Expansion → Expansion
unless_wrong step e = if is_none e.fault then step e else e

-- in a bracket a comma ends a part, and ] the bracket too
abbrev pub with_inside : ℕ → Expansion → ℕ → Expansion
with_inside most e byte =
    if byte == 44 then part_ended most e else (if not (byte == 93) then byte_kept e byte else unless_wrong (bracket_closed most) (part_ended most e))

-- outside a comma ends hosts, and [ begins a bracket
abbrev pub with_outside : ℕ → Expansion → ℕ → Expansion
with_outside most e byte =
    if byte == 44 then unless_wrong (hosts_ended most) (text_ended most e) else (if byte == 91 then record (text_ended most e) { inside = true } else byte_kept e byte)

abbrev pub with_byte : ℕ → Expansion → ℕ → Expansion
with_byte most e byte = if is_some e.fault then e else (if e.inside then with_inside most e byte else with_outside most e byte)

-- the end of the list is as a comma
abbrev pub list_ended : ℕ → Expansion → Expansion
list_ended most e = if is_some e.fault then e else (if e.inside then wrong e NotHosts else with_outside most e 44)

abbrev pub expansion_of : ℕ → List ℕ → Expansion
expansion_of most text = list_ended most (fold (with_byte most) nothing_read text)

abbrev pub hosts_of : List (List ℕ) → Option HostsFault → Result (List (List ℕ)) HostsFault
hosts_of hosts None = Ok hosts
hosts_of hosts (Some fault) = Err fault

-- the hosts of a list, at most so many
abbrev pub hosts_in : ℕ → List ℕ → Result (List (List ℕ)) HostsFault
hosts_in most text = hosts_of (expansion_of most text).whole (expansion_of most text).fault

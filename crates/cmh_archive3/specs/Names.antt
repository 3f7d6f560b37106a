-- The names in the folder of a site's journal, and what a record says.
use Rattle.std.specs.Prelude.{ℕ, ◌-◌, ◌^◌, List, [], ◌++◌, codes, false}
use Rattle.std.specs.Fmt.{decimal, digits, format_spec, padded_integral}

-- the decimal digits of a number, with zeros in front where these are fewer than ten
abbrev pub ten_digits : ℕ → List ℕ
ten_digits n = padded_integral (format_spec 32 0 4 10 (2 ^ 64 - 1)) false [] (decimal n)

-- the hexadecimal digits of a number, with zeros in front where these are fewer than sixteen
abbrev pub sixteen_digits : ℕ → List ℕ
sixteen_digits n = padded_integral (format_spec 32 0 4 16 (2 ^ 64 - 1)) false [] (digits 16 false n)

-- the path of the segment of an epoch in a folder
abbrev pub segment_path : List ℕ → ℕ → List ℕ
segment_path folder epoch = folder ++ codes "/" ++ ten_digits epoch ++ codes ".cmhj"

-- and that of the record beside it
abbrev pub record_path : List ℕ → ℕ → List ℕ
record_path folder epoch = folder ++ codes "/" ++ ten_digits epoch ++ codes ".audited"

-- what a record says: that an audit accepted the segment with this mark
abbrev pub record_text : ℕ → List ℕ
record_text mark = codes "accepted " ++ sixteen_digits mark ++ codes "\n"

mod ItemLines
mod ParamLines
mod WireDigits
mod WordDigits

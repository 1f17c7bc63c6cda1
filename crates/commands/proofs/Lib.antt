mod GivenAddresses
mod GivenNumbers
mod GivenOptions
mod OptionValues
mod NoRun

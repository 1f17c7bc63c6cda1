mod Explaining
